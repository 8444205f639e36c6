use Rattle.std.proofs.Common.{◌≡◌, take}
use Rattle.wk_body.specs.Lengths.{limited}
use Rattle.wk_pieces.specs.Overlays.{with_items}
use Rattle.wk_pieces.specs.Pieces.{entries_size}
use Rattle.wk_pieces.proofs.lengths.codes_len_after.Given as goal

abbrev pub invariant-loop-i : goal.invariant-loop-i
invariant-loop-i l = l.total ≡ limited (entries_size (take l.i (with_items l.codes.items l.news.items)))
