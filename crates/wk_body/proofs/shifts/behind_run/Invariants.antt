use Rattle.std.proofs.Common.{ℕ, ◌-◌, ◌≤◌, List, length}
use Rattle.wk_body.specs.declared.shifts.Shifts.{Shifts}
use Rattle.wk_body.specs.ShiftSteps.{ShiftsOn}
use Rattle.wk_body.proofs.shifts.behind_run.Given as goal

abbrev pub invariant-loop-at : goal.invariant-loop-at
invariant-loop-at l = record {
  from : l.from ≤ l.at;
  within : l.at ≤ length l.code;
  goes : (s : Shifts) (out : List ℕ) (run : ℕ) → run ≤ l.from → ShiftsOn s l.code out run l.from out run l.at;
}

abbrev pub decreases-loop-at : goal.decreases-loop-at
decreases-loop-at l = length l.code - l.at
