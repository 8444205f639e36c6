use Rattle.std.proofs.Common.{◌++◌}
use Rattle.wk_list.specs.Uses.{use_line, uses_text}
use Rattle.wk_list.proofs.LineSteps.{lines_from}
use Rattle.wk_list.proofs.TakenLemmas.{IsLeft}
use Rattle.wk_list.proofs.uses.list_uses.Given as goal

abbrev pub invariant-loop-index : goal.invariant-loop-index
invariant-loop-index g l = IsLeft g.W.Out.taken g.W.Out.failed l.fn.out l.out (l.fn.text.items ++ uses_text (g.S.Shape.seen l.shape))
    (l.text.items ++ lines_from use_line l.imported l.index l.funcs)
