use Rattle.std.proofs.Common.{◌-◌, ◌≤◌, length}
use Rattle.wk_body.specs.Written.{StaysInFront}
use Rattle.wk_body.specs.ShiftSteps.{ShiftsOn}
use Rattle.wk_body.proofs.shifts.put_tokens.Given as goal

abbrev pub invariant-loop-at : goal.invariant-loop-at
invariant-loop-at l = record {
  order : l.run ≤ l.at;
  within : l.at ≤ length l.code;
  goes : ShiftsOn l.shifts l.code l.fn.out.items 0 l.head l.out.items l.run l.at;
  front : StaysInFront l.fn.out.items l.out.items;
}

abbrev pub decreases-loop-at : goal.decreases-loop-at
decreases-loop-at l = length l.code - l.at
