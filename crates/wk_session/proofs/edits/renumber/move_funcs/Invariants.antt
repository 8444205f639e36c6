use Rattle.std.proofs.Common.{◌≡◌, ◌++◌, take, drop, map}
use Rattle.wk_module.specs.Moving.{moved_func}
use Rattle.wk_session.proofs.edits.renumber.move_funcs.Given as goal

abbrev pub invariant-loop-i : goal.invariant-loop-i
invariant-loop-i l = l.funcs.items ≡ map (moved_func l.kind l.from) (take l.i l.fn.funcs.items) ++ drop l.i l.fn.funcs.items
