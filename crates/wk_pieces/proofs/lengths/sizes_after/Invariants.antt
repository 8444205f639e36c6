use Rattle.std.proofs.Common.{◌≡◌, ◌++◌, length, map, take, drop, replicate}
use Rattle.wk_pieces.specs.Overlays.{with_items}
use Rattle.wk_pieces.proofs.lengths.sizes_after.Given as goal

abbrev pub invariant-loop-id : goal.invariant-loop-id
invariant-loop-id l = l.sizes ≡ take l.id (map length (with_items l.sections.items l.news.items)) ++ drop l.id (replicate 12 0)
