use Rattle.std.proofs.Common.{◌≡◌, ℕ, List, length, map, sym, ap, ◌∙◌}
use Rattle.wk_body.specs.Lengths.{limited}
use Rattle.wk_module.specs.declared.types.Func.{Func}
use Rattle.wk_module.specs.Sections.{SectionLists, of_number}
use Rattle.wk_module.specs.Shape.{lists_of}
use Rattle.wk_module.specs.Writing.{contents_by}
use Rattle.wk_module.specs.WritingLaws.{contents_by-lent}
use Rattle.wk_module.proofs.Lengths.{sizes_of}
use Rattle.wk_module.proofs.length.plus_lent.Goals as goal
use Rattle.wk_module.proofs.length.plus_lent.Goals.{then-id-eq-CODE, else-id-eq-CODE}

pub returns : goal.returns
returns c =
    λ m of.
    let l = lists_of m in
    let size : c.if-id-eq-CODE.size ≡ limited (length (contents_by l (of_number c.args.id))) =
    elim c.if-id-eq-CODE.branch [
      | then-id-eq-CODE w ↦
          w.size-is ∙ w.codes_len_by-size.ensures (map (λ (f : Func). f.body) m.funcs) (of.codes ∙ sizes_of m.funcs)
          ∙ sym (ap (λ (id : ℕ). limited (length (contents_by l (of_number id)))) w.if-id-eq-CODE.true)
      | else-id-eq-CODE w ↦
          w.size-is ∙ w.contents_len-size.ensures
          ∙ ap (λ (k : SectionLists). limited (length (contents_by k (of_number c.args.id)))) of.lists
          ∙ ap (λ (b : List ℕ). limited (length b)) (contents_by-lent l c.args.id w.if-id-eq-CODE.false)
    ] in
    c.plus_contents.ensures l size
