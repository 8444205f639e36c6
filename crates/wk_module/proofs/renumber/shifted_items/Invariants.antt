use Rattle.std.proofs.Common.{◌≡◌, map, take}
use Rattle.wk_module.proofs.renumber.shifted_items.Given as goal

abbrev pub invariant-loop-item : goal.invariant-loop-item
invariant-loop-item g l = l.shifted.items ≡ map (g.T.Movable.moved l.kind l.from) (take l.item-index l.items)
