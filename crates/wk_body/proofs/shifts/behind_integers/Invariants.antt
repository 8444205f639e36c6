use Rattle.std.proofs.Common.{◌≡◌, ◌-◌, ◌≤◌, ℕ, List, ◌++◌, length, drop}
use Rattle.wk_body.specs.ShiftSteps.{AreIntegers}
use Rattle.wk_body.proofs.IntegerLoop.{InIntegers}
use Rattle.wk_body.proofs.shifts.behind_integers.Given as goal

abbrev pub invariant-loop : goal.invariant-loop
invariant-loop l = record {
  from : l.at ≤ l.end;
  within : l.end ≤ length l.code;
  goes : (front later : List ℕ) → AreIntegers l.count front → drop l.at l.code ≡ front ++ later
      → InIntegers front later l.code l.at (l.count - l.counter) l.end;
}
