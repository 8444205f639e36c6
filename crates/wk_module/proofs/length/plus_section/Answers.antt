use Rattle.std.proofs.Common.{◌≡◌, ℕ, length, sym, ap, ◌∙◌}
use Rattle.wk_body.specs.Lengths.{limited}
use Rattle.wk_module.specs.Sections.{of_number}
use Rattle.wk_module.specs.Shape.{lists_of}
use Rattle.wk_module.specs.Writing.{contents_by}
use Rattle.wk_module.proofs.length.plus_section.Goals as goal
use Rattle.wk_module.proofs.length.plus_section.Goals.{then-id-eq-CODE, else-id-eq-CODE}

pub returns : goal.returns
returns c =
    let l = lists_of c.args.parts.now in
    let size : c.if-id-eq-CODE.size ≡ limited (length (contents_by l (of_number c.args.id))) =
    elim c.if-id-eq-CODE.branch [
      | then-id-eq-CODE w ↦ w.size-is ∙ c.requires ∙ sym (ap (λ (id : ℕ). limited (length (contents_by l (of_number id)))) w.if-id-eq-CODE.true)
      | else-id-eq-CODE w ↦ w.size-is ∙ w.contents_len-size.ensures
    ] in
    c.plus_contents.ensures l size
