use Rattle.std.proofs.Common.{◌++◌, [], take, drop}
use Rattle.wk_list.specs.Spaces.{AreCounted}
use Rattle.wk_list.specs.Details.{import_lines, with_heading}
use Rattle.wk_list.proofs.TakenLemmas.{IsLeft}
use Rattle.wk_list.proofs.imports.list_imports.Given as goal

abbrev pub invariant-loop-index : goal.invariant-loop-index
invariant-loop-index g l = record {
  counted : AreCounted l.counts (take l.index l.imports);
  so_far : IsLeft g.W.Out.taken g.W.Out.failed l.fn.out l.out (l.fn.text.items ++ with_heading 2 l.imports (import_lines [] l.imports))
      (l.text.items ++ import_lines (take l.index l.imports) (drop l.index l.imports));
}
