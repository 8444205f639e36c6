use Rattle.std.proofs.Common.{◌≡◌, ◌≤◌, length, take}
use Rattle.wk_typing.specs.Own.{popped}
use Rattle.wk_typing.specs.Moves.{on_top}
use Rattle.wk_typing.proofs.operands.pop_types.Given as goal

abbrev pub invariant-loop-n : goal.invariant-loop-n
invariant-loop-n l =
    (l.n ≤ length l.types) × (on_top (popped l.types) l.initial.s ≡ on_top (popped (take l.n l.types)) l.s)

abbrev pub decreases-loop-n : goal.decreases-loop-n
decreases-loop-n l = l.n
