use Rattle.std.proofs.Common.{arith}
use Rattle.wk_body.proofs.shifts.behind_run.Goals as goal

pub loop-at-init : goal.loop-at-init
loop-at-init c = record { from = omega arith; within = c.requires; goes = λ s out run le all goal w. w }

pub loop-at-preserved : goal.loop-at-preserved
loop-at-preserved c = record {
  from = omega (arith, c.in-Some.ensures.within);
  within = omega (arith, c.in-Some.ensures.within);
  goes = λ s out run le all goal w. c.in-Some.ensures.goes s out run (omega (arith, c.loop-at.invariant.from)) all goal
      (c.loop-at.invariant.goes s out run le all goal w);
}
