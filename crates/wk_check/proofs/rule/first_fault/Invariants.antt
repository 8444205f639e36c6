use Rattle.std.proofs.Common.{◌≡◌, drop}
use Rattle.wk_check.specs.Flaws.{numbered, first_in}
use Rattle.wk_check.proofs.rule.first_fault.Given as goal

abbrev pub invariant-loop-index : goal.invariant-loop-index
invariant-loop-index g l =
    first_in l.section 0 (numbered (g.R.Rule.wrong l.rule) 0 l.items)
    ≡ first_in l.section l.index (numbered (g.R.Rule.wrong l.rule) l.index (drop l.index l.items))
