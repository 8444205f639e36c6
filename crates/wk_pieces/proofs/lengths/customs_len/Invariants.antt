use Rattle.std.proofs.Common.{◌≡◌, take}
use Rattle.wk_body.specs.Lengths.{limited}
use Rattle.wk_pieces.specs.Pieces.{customs_size}
use Rattle.wk_pieces.proofs.lengths.customs_len.Given as goal

abbrev pub invariant-loop-custom : goal.invariant-loop-custom
invariant-loop-custom l = l.total ≡ limited (customs_size (take l.custom-index l.customs))
