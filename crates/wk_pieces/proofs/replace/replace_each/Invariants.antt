use Rattle.std.proofs.Common.{◌≡◌, ◌≤◌, length}
use Rattle.wk_pieces.specs.Overlays.{with_items}
use Rattle.wk_pieces.proofs.replace.replace_each.Given as goal

abbrev pub invariant-loop-new : goal.invariant-loop-new
invariant-loop-new g l = record {
  fits : length l.news.items ≤ length l.items.items;
  same : with_items l.items.items l.news.items ≡ with_items l.fn.items.items l.initial.news.items;
}

abbrev pub decreases-loop-new : goal.decreases-loop-new
decreases-loop-new g l = length l.news.items
