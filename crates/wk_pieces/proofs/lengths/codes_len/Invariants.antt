use Rattle.std.proofs.Common.{◌≡◌, take}
use Rattle.wk_body.specs.Lengths.{limited}
use Rattle.wk_pieces.specs.Pieces.{entries_size}
use Rattle.wk_pieces.proofs.lengths.codes_len.Given as goal

abbrev pub invariant-loop-code : goal.invariant-loop-code
invariant-loop-code l = l.total ≡ limited (entries_size (take l.code-index l.codes.items))
