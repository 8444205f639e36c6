use Rattle.std.proofs.Common.{◌≡◌, ◌-◌, pos, ◌-ℤ◌, to_z, of_z, arith}
use Rattle.std.specs.Int.{w64}
use Rattle.std.proofs.lemmas.Int.{ints}
use Rattle.wk_bytes.specs.Leb.{joinU}
use Rattle.wk_bytes.proofs.LebShort.{last_above, last_below, four_signed}
use Rattle.wk_bytes.proofs.leb.four_signed.Goals as goal

pub returns-then-d-lt64 : goal.returns-then-d-lt64
returns-then-d-lt64 c = λ N wide.
    let value : to_z w64 c.four_bytes-n.result ≡ pos (joinU (c.args.a - 128) (joinU (c.args.b - 128) (joinU (c.args.c - 128) c.args.d))) -ℤ pos 0 =
    omega (arith, ints) in
    rw value (four_signed N c.args.a c.args.b c.args.c c.args.d 0 c.requires.first c.requires.second c.requires.third (omega arith) (omega arith)
    (omega arith) (omega arith)
    (last_above 6 (N - 7 - 7 - 7) c.args.d (omega arith) c.if-d-lt64.true c.if-d-lt64.true))

pub returns-else-d-lt64 : goal.returns-else-d-lt64
returns-else-d-lt64 c = λ N wide.
    let value : to_z w64 (of_z w64 (to_z w64 c.four_bytes-n.result -ℤ pos 268435456))
    ≡ pos (joinU (c.args.a - 128) (joinU (c.args.b - 128) (joinU (c.args.c - 128) c.args.d))) -ℤ pos 268435456 = omega (arith, ints) in
    rw value (four_signed N c.args.a c.args.b c.args.c c.args.d 128 c.requires.first c.requires.second c.requires.third (omega arith) (omega arith)
    (omega arith) (omega arith)
    (last_below 6 (N - 7 - 7 - 7) c.args.d (omega arith) c.if-d-lt64.false c.requires.last (omega arith)))
