use Rattle.std.proofs.Common.{length}
use Rattle.wk_body.proofs.Loop.{Underway}
use Rattle.wk_body.proofs.reading.read_front.Given as goal

abbrev pub invariant-loop-ahead : goal.invariant-loop-ahead
invariant-loop-ahead l = Underway l.profile l.fn.cursor l.scratch l.ahead

abbrev pub decreases-loop-ahead : goal.decreases-loop-ahead
decreases-loop-ahead l = length l.ahead.rest
