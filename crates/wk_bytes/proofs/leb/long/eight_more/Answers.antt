use Rattle.std.proofs.Common.{arith}
use Rattle.wk_bytes.proofs.LebWord.{EightMore, eight_more}
use Rattle.wk_bytes.proofs.leb.long.eight_more.Goals as goal

is_more : (c : goal.After-side_by_side) → EightMore c.args.bytes.now c.side_by_side.result
is_more c = eight_more c.args.bytes.now c.read_u64-word.result c.side_by_side.result
    (λ i. omega (arith, c.type_inv.bytes i)) c.requires c.read_u64-word.ensures c.if-word.false c.side_by_side.ensures

pub returns-clause-room : goal.returns-clause-room
returns-clause-room c = (is_more c).0

pub returns-clause-spelling : goal.returns-clause-spelling
returns-clause-spelling c = (is_more c).1
