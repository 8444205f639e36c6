use Rattle.std.proofs.Common.{◌≡◌, ◌++◌, length, map, take, drop, replicate}
use Rattle.wk_pieces.proofs.lengths.sizes_of.Given as goal

abbrev pub invariant-loop-id : goal.invariant-loop-id
invariant-loop-id l = l.sizes ≡ take l.id (map length l.sections.items) ++ drop l.id (replicate 12 0)
