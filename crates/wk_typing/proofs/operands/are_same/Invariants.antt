use Rattle.std.proofs.Common.{◌≡◌, drop}
use Rattle.wk_typing.specs.Effects.{same_types}
use Rattle.wk_typing.proofs.operands.are_same.Given as goal

abbrev pub invariant-loop-i : goal.invariant-loop-i
invariant-loop-i l = same_types l.a l.b ≡ same_types (drop l.i l.a) (drop l.i l.b)
