use Rattle.std.proofs.Common.{◌-◌}
use Rattle.wk_body.proofs.RewrittenBody.{GroupsPassed}
use Rattle.wk_body.proofs.reencode.pass_groups.Given as goal

abbrev pub invariant-loop : goal.invariant-loop
invariant-loop l = GroupsPassed l.count (l.count - l.counter) l.declared l.fn.out.items l.fn.coder l.out.items l.own
