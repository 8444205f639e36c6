use Rattle.std.proofs.Common.{◌≡◌, pos, ◌-ℤ◌, to_z, of_z, arith}
use Rattle.std.specs.Int.{w64}
use Rattle.std.proofs.lemmas.Int.{ints}
use Rattle.wk_bytes.proofs.LebShort.{last_above, last_below}
use Rattle.wk_bytes.proofs.leb.one_signed.Goals as goal

pub returns-then-a-lt64 : goal.returns-then-a-lt64
returns-then-a-lt64 c = λ N wide.
    let value : to_z w64 (of_z w64 c.from.result) ≡ pos c.args.a -ℤ pos 0 = omega (arith, ints) in
    rw value (last_above 6 N c.args.a wide c.if-a-lt64.true c.if-a-lt64.true)

pub returns-else-a-lt64 : goal.returns-else-a-lt64
returns-else-a-lt64 c = λ N wide.
    let value : to_z w64 (of_z w64 (to_z w64 (of_z w64 c.from-else-a-lt64.result) -ℤ pos 128)) ≡ pos c.args.a -ℤ pos 128 = omega (arith, ints) in
    rw value (last_below 6 N c.args.a wide c.if-a-lt64.false c.requires (omega arith))
