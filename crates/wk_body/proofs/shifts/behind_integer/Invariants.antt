use Rattle.std.proofs.Common.{◌≡◌, ℕ, ◌-◌, ◌≤◌, List, ◌++◌, length, drop}
use Rattle.wk_body.specs.ShiftSteps.{IsInteger}
use Rattle.wk_body.proofs.IntegerLoop.{InInteger}
use Rattle.wk_body.proofs.shifts.behind_integer.Given as goal

abbrev pub invariant-loop-end : goal.invariant-loop-end
invariant-loop-end l = record {
  from : l.at ≤ l.end;
  within : l.end ≤ length l.code;
  goes : (front later : List ℕ) → IsInteger front → drop l.at l.code ≡ front ++ later → InInteger front later l.code l.at l.end;
}

abbrev pub decreases-loop-end : goal.decreases-loop-end
decreases-loop-end l = length l.code - l.end
