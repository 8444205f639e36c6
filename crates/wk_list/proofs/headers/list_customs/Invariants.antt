use Rattle.std.proofs.Common.{◌≡◌, ◌+◌, ◌++◌, length, drop}
use Rattle.wk_module.specs.Writing.{customs_at}
use Rattle.wk_list.proofs.HeaderSteps.{custom_text}
use Rattle.wk_list.proofs.TakenLemmas.{IsLeft}
use Rattle.wk_list.proofs.headers.list_customs.Given as goal

abbrev pub invariant-loop-index : goal.invariant-loop-index
invariant-loop-index g l = record {
  so_far : IsLeft g.W.Out.taken g.W.Out.failed l.fn.out l.out
      (l.fn.text.items ++ custom_text l.fn.place l.fn.at 0 (g.S.Sketch.seen l.fn.sketch).customs)
      (l.text.items ++ custom_text l.fn.place l.next l.index (g.S.Sketch.seen l.fn.sketch).customs);
  place : l.next + length (customs_at l.fn.place (drop l.index (g.S.Sketch.seen l.fn.sketch).customs))
      ≡ l.fn.at + length (customs_at l.fn.place (g.S.Sketch.seen l.fn.sketch).customs);
}
