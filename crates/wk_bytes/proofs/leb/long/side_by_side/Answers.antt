use Rattle.std.proofs.Common.{◌+◌, ◌*◌, ◌∙◌, arith}
use Rattle.wk_bytes.specs.Leb.{joinU}
use Rattle.wk_bytes.proofs.LebWord.{in_twos, in_fours, in_eights}
use Rattle.wk_bytes.proofs.leb.long.side_by_side.Goals as goal

pub returns : goal.returns
returns c' = λ a b c d e f g h fa fb fc fd fe ff fg fh is.
    let twos = in_twos a b c d e f g h c'.args.word fa fb fc fd fe ff fg fh is in
    let fours = in_fours (joinU a b) (joinU c d) (joinU e f) (joinU g h) _ (omega arith) (omega arith) (omega arith) (omega arith) twos in
    let eights = in_eights (joinU a b + 16384 * joinU c d) (joinU e f + 16384 * joinU g h) _ (omega arith) (omega arith) fours in
    eights ∙ omega arith
