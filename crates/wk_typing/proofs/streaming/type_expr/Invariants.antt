use Rattle.std.proofs.Common.{length}
use Rattle.wk_typing.proofs.Streamed.{Underway}
use Rattle.wk_typing.proofs.streaming.type_expr.Given as goal

abbrev pub invariant-loop-next : goal.invariant-loop-next
invariant-loop-next g l = Underway (g.E.Scope.answers l.env) l.f l.profile l.fn.cursor l.ahead l.stream.reader.kinds l.stream.stacks

abbrev pub decreases-loop-next : goal.decreases-loop-next
decreases-loop-next g l = length l.ahead.rest
