use Rattle.std.proofs.Common.{◌≡◌, take}
use Rattle.wk_module.specs.Moving.{items_movement}
use Rattle.wk_module.proofs.renumber.items_movement.Given as goal

abbrev pub invariant-loop-item : goal.invariant-loop-item
invariant-loop-item g l = l.found ≡ items_movement (g.T.Movable.moves l.kind l.from) (g.T.Movable.stuck l.kind l.from) (take l.item-index l.items)
