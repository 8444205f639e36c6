use Rattle.std.proofs.Common.{◌≡◌, ◌+◌, ◌++◌, length, drop}
use Rattle.wk_list.specs.CodeText.{entries_text}
use Rattle.wk_list.proofs.Entries.{codes_of}
use Rattle.wk_list.proofs.TakenLemmas.{IsLeft}
use Rattle.wk_list.proofs.code.list_entries.Given as goal

abbrev pub invariant-loop-index : goal.invariant-loop-index
invariant-loop-index g l = record {
  so_far : IsLeft g.W.Out.taken g.W.Out.failed l.fn.out l.out (l.fn.text.items ++ entries_text l.imported l.start (g.S.Shape.seen l.shape).funcs)
      (l.text.items ++ entries_text (l.imported + l.index) l.at (drop l.index (g.S.Shape.seen l.shape).funcs));
  place : l.at + length (codes_of (drop l.index (g.S.Shape.seen l.shape).funcs)) ≡ l.start + length (codes_of (g.S.Shape.seen l.shape).funcs);
}
