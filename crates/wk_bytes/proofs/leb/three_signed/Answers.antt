use Rattle.std.proofs.Common.{◌≡◌, ◌-◌, pos, ◌-ℤ◌, to_z, of_z, arith}
use Rattle.std.specs.Int.{w64}
use Rattle.std.proofs.lemmas.Int.{ints}
use Rattle.wk_bytes.specs.Leb.{joinU}
use Rattle.wk_bytes.proofs.LebShort.{last_above, last_below, three_signed}
use Rattle.wk_bytes.proofs.leb.three_signed.Goals as goal

pub returns-then-c-lt64 : goal.returns-then-c-lt64
returns-then-c-lt64 c = λ N wide.
    let value : to_z w64 c.three_bytes-n.result ≡ pos (joinU (c.args.a - 128) (joinU (c.args.b - 128) c.args.c)) -ℤ pos 0 = omega (arith, ints) in
    rw value (three_signed N c.args.a c.args.b c.args.c 0 c.requires.first c.requires.second (omega arith) (omega arith) (omega arith)
    (last_above 6 (N - 7 - 7) c.args.c (omega arith) c.if-c-lt64.true c.if-c-lt64.true))

pub returns-else-c-lt64 : goal.returns-else-c-lt64
returns-else-c-lt64 c = λ N wide.
    let value : to_z w64 (of_z w64 (to_z w64 c.three_bytes-n.result -ℤ pos 2097152))
    ≡ pos (joinU (c.args.a - 128) (joinU (c.args.b - 128) c.args.c)) -ℤ pos 2097152 = omega (arith, ints) in
    rw value (three_signed N c.args.a c.args.b c.args.c 128 c.requires.first c.requires.second (omega arith) (omega arith) (omega arith)
    (last_below 6 (N - 7 - 7) c.args.c (omega arith) c.if-c-lt64.false c.requires.last (omega arith)))
