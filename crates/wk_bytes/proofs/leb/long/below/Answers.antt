use Rattle.std.proofs.Common.{ℕ, ◌^◌, ap, ◌≡◌, ◌*ℤ◌, ◌+ℤ◌, ◌-◌, pos, arith}
use Rattle.std.proofs.lemmas.Int.{ints}
use Rattle.wk_bytes.proofs.LebShort.{five_below, five_more, five_value, signed_29}
use Rattle.wk_bytes.proofs.leb.long.below.Goals as goal

pub returns : goal.returns
returns c = λ rest s.
    let room = signed_29 c.args.high c.requires.room in
    let value : (c.args.high *ℤ pos (2 ^ 35)) +ℤ pos (c.five_bytes-low.result - 34359738368)
    ≡ five_below c.args.a c.args.b c.args.c c.args.d c.args.e c.args.high =
    five_value c.args.a c.args.b c.args.c c.args.d c.args.e _ c.args.high c.requires.first c.requires.second c.requires.third c.requires.fourth
    c.requires.fifth (ap (λ (n : ℕ). n - 34359738368) c.five_bytes-low.ensures) in
    five_more c.args.a c.args.b c.args.c c.args.d c.args.e rest c.args.high _ c.requires.first c.requires.second c.requires.third c.requires.fourth
    c.requires.fifth
    (omega arith) (omega arith) (omega arith) (omega arith) (omega arith) s (omega (arith, ints, value, room))
