use Rattle.std.proofs.Common.{◌+◌, length, refl, arith}
use Rattle.wk_strip.proofs.Over.{over_more}
use Rattle.wk_strip.proofs.codes.put_code.Goals as goal

pub returns : goal.returns
returns c =
    let a = c.args in
    let middle = a.at + length a.size.now in
    over_more a.bytes.now a.size.now c.put_at.new.bytes a.at middle (omega (arith, c.requires)) refl c.put_at.ensures a.body.now c.put_at-2.new.bytes
    (middle + length a.body.now) (omega arith) c.put_at-2.ensures
