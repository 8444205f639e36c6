use Rattle.std.proofs.Common.{◌≡◌, ◌-◌, pos, ◌-ℤ◌, to_z, of_z, arith}
use Rattle.std.specs.Int.{w64}
use Rattle.std.proofs.lemmas.Int.{ints}
use Rattle.wk_bytes.specs.Leb.{joinU}
use Rattle.wk_bytes.proofs.LebShort.{last_either_above, last_either_below, five_signed}
use Rattle.wk_bytes.proofs.leb.five_signed.Goals as goal

pub returns-then-e-lt64 : goal.returns-then-e-lt64
returns-then-e-lt64 c = λ k N fits wide.
    let value : to_z w64 c.five_bytes-n.result
    ≡ pos (joinU (c.args.a - 128) (joinU (c.args.b - 128) (joinU (c.args.c - 128) (joinU (c.args.d - 128) c.args.e)))) -ℤ pos 0 = omega (arith, ints) in
    rw value (five_signed N c.args.a c.args.b c.args.c c.args.d c.args.e 0 c.requires.first c.requires.second c.requires.third c.requires.fourth
    (omega arith) (omega arith) (omega arith) (omega arith) (omega arith)
    (last_either_above k (N - 7 - 7 - 7 - 7) c.args.e (omega arith) c.if-e-lt64.true fits))

pub returns-else-e-lt64 : goal.returns-else-e-lt64
returns-else-e-lt64 c = λ k N fits wide.
    let value : to_z w64 (of_z w64 (to_z w64 c.five_bytes-n.result -ℤ pos 34359738368))
    ≡ pos (joinU (c.args.a - 128) (joinU (c.args.b - 128) (joinU (c.args.c - 128) (joinU (c.args.d - 128) c.args.e)))) -ℤ pos 34359738368 =
    omega (arith, ints) in
    rw value (five_signed N c.args.a c.args.b c.args.c c.args.d c.args.e 128 c.requires.first c.requires.second c.requires.third c.requires.fourth
    (omega arith) (omega arith) (omega arith) (omega arith) (omega arith)
    (last_either_below k (N - 7 - 7 - 7 - 7) c.args.e (omega arith) c.if-e-lt64.false c.requires.last fits))
