use Rattle.std.proofs.Common.{◌≡◌, drop, map}
use Rattle.wk_check.specs.Flaws.{first_in}
use Rattle.wk_typing.specs.Faults.{body_flaw}
use Rattle.wk_check.proofs.code_faults.first_code_fault.Given as goal

abbrev pub invariant-loop-index : goal.invariant-loop-index
invariant-loop-index l =
    first_in 10 0 (map body_flaw l.verdicts) ≡ first_in 10 l.index (map body_flaw (drop l.index l.verdicts))
