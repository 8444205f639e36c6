use Rattle.std.proofs.Common.{◌≡◌, ℕ, List, [], ◌+◌, length, refl, sym, ap, ◌∙◌, arith}
use Rattle.wk_body.specs.Lengths.{limited}
use Rattle.wk_module.specs.Sections.{of_number}
use Rattle.wk_module.specs.Writing.{contents_by, section_by}
use Rattle.wk_module.specs.WritingLaws.{section_none, section_some}
use Rattle.wk_module.proofs.Lengths.{is_zero, not_zero}
use Rattle.wk_module.proofs.length.plus_contents.Goals as goal

pub returns-then-eq : goal.returns-then-eq
returns-then-eq c =
    λ l size.
    let id = of_number c.args.id in
    let none = is_zero (length (contents_by l id)) c.args.size size c.if-eq.ensures in
    let out : section_by l id ≡ [] = section_none l id none in
    λ n h. h ∙ ap limited (omega (arith, ap length out))

pub returns : goal.returns
returns c =
    λ l size.
    let id = of_number c.args.id in
    let some = not_zero (length (contents_by l id)) c.args.size size c.if-eq.ensures in
    let framed = section_some l c.args.id id refl some in
    λ n h. c.plus_framed.ensures c.args.id (contents_by l id) size n h ∙ ap (λ (b : List ℕ). limited (n + length b)) (sym framed)
