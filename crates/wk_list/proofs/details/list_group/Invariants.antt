use Rattle.std.proofs.Common.{◌+◌, ◌++◌}
use Rattle.wk_list.specs.Details.{group, row_line}
use Rattle.wk_list.proofs.LineSteps.{lines_from}
use Rattle.wk_list.proofs.TakenLemmas.{IsLeft}
use Rattle.wk_list.proofs.details.list_group.Given as goal

abbrev pub invariant-loop-index : goal.invariant-loop-index
invariant-loop-index g l = IsLeft g.W.Out.taken g.W.Out.failed l.fn.out l.out
    (l.fn.text.items ++ group l.id (λ n. row_line g.R.Row.rest l.name (l.first + n)) l.items)
    (l.text.items ++ lines_from (row_line g.R.Row.rest l.name) l.first l.index l.items)
