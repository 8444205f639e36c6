use Rattle.std.proofs.Common.{◌≡◌, ◌-◌, pos, ◌-ℤ◌, to_z, of_z, arith}
use Rattle.std.specs.Int.{w64}
use Rattle.std.proofs.lemmas.Int.{ints}
use Rattle.wk_bytes.specs.Leb.{joinU}
use Rattle.wk_bytes.proofs.LebShort.{last_above, last_below, two_signed}
use Rattle.wk_bytes.proofs.leb.two_signed.Goals as goal

pub returns-then-b-lt64-clause-wide : goal.returns-then-b-lt64-clause-wide
returns-then-b-lt64-clause-wide c = λ N wide.
    let value : to_z w64 c.two_bytes-n.result ≡ pos (joinU (c.args.a - 128) c.args.b) -ℤ pos 0 = omega (arith, ints) in
    rw value (two_signed N c.args.a c.args.b 0 c.requires.first (omega arith) (omega arith)
    (last_above 6 (N - 7) c.args.b (omega arith) c.if-b-lt64.true c.if-b-lt64.true))

pub returns-then-b-lt64-clause-narrow : goal.returns-then-b-lt64-clause-narrow
returns-then-b-lt64-clause-narrow c = λ sign.
    let value : to_z w64 c.two_bytes-n.result ≡ pos (joinU (c.args.a - 128) c.args.b) -ℤ pos 0 = omega (arith, ints) in
    rw value (two_signed 8 c.args.a c.args.b 0 c.requires.first (omega arith) (omega arith)
    (last_above 0 1 c.args.b (omega arith) c.if-b-lt64.true (omega (arith, sign))))

pub returns-else-b-lt64-clause-wide : goal.returns-else-b-lt64-clause-wide
returns-else-b-lt64-clause-wide c = λ N wide.
    let value : to_z w64 (of_z w64 (to_z w64 c.two_bytes-n.result -ℤ pos 16384)) ≡ pos (joinU (c.args.a - 128) c.args.b) -ℤ pos 16384 = omega (arith, ints) in
    rw value (two_signed N c.args.a c.args.b 128 c.requires.first (omega arith) (omega arith)
    (last_below 6 (N - 7) c.args.b (omega arith) c.if-b-lt64.false c.requires.last (omega arith)))

pub returns-else-b-lt64-clause-narrow : goal.returns-else-b-lt64-clause-narrow
returns-else-b-lt64-clause-narrow c = λ sign.
    let value : to_z w64 (of_z w64 (to_z w64 c.two_bytes-n.result -ℤ pos 16384)) ≡ pos (joinU (c.args.a - 128) c.args.b) -ℤ pos 16384 = omega (arith, ints) in
    rw value (two_signed 8 c.args.a c.args.b 128 c.requires.first (omega arith) (omega arith)
    (last_below 0 1 c.args.b (omega arith) c.if-b-lt64.false c.requires.last (omega (arith, sign))))
