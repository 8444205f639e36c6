use Rattle.std.proofs.Common.{List, ℕ, ◌++◌, ap}
use Rattle.wk_list.proofs.SectionTexts.{section_same}
use Rattle.wk_list.proofs.TakenLemmas.{puts_same}
use Rattle.wk_list.proofs.details.list_section.Goals as goal

pub returns-then-id-eq-CODE : goal.returns-then-id-eq-CODE
returns-then-id-eq-CODE g c = rw c.if-id-eq-CODE.true c.list_codes.ensures

pub returns : goal.returns
returns g c =
    puts_same (ap (λ (x : List ℕ). c.args.text.now.items ++ x) (section_same (g.S.Sketch.seen c.args.sketch.now) _ c.args.id c.parts.ensures.value
    c.if-id-eq-CODE.false)) c.list_items.ensures
