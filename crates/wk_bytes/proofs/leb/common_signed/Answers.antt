use Rattle.std.proofs.Common.{inl, inr, arith, rules}
use Rattle.std.specs.Prelude.{FitsSigned}
use Rattle.std.specs.Int.{w64}
use Rattle.std.proofs.lemmas.Int.{to_z-of_z}
use Rattle.wk_bytes.proofs.LebShort.{first_four, first_five}
use Rattle.wk_bytes.proofs.leb.common_signed.Goals as goal

pub returns-then-e-lt8 : goal.returns-then-e-lt8
returns-then-e-lt8 c =
    let fits : FitsSigned w64 c.five_signed.result = search rules in
    rw (first_five c.args.bytes.now c.in-len5-up.len_at_least, to_z-of_z w64 c.five_signed.result fits)
    (omega arith, c.in-len5-up.len_at_least, λ N wide. c.five_signed.ensures 3 N (inl (omega arith)) (omega arith))

pub returns-then-e-lt128 : goal.returns-then-e-lt128
returns-then-e-lt128 c =
    let fits : FitsSigned w64 c.five_signed-then-e-lt128.result = search rules in
    rw (first_five c.args.bytes.now c.in-len5-up.len_at_least, to_z-of_z w64 c.five_signed-then-e-lt128.result fits)
    (omega arith, c.in-len5-up.len_at_least, λ N wide. c.five_signed-then-e-lt128.ensures 3 N (inr (omega arith)) (omega arith))

pub returns-then-d-lt128 : goal.returns-then-d-lt128
returns-then-d-lt128 c =
    let fits : FitsSigned w64 c.four_signed.result = search rules in
    rw (first_four c.args.bytes.now c.in-len5-up.len_at_least, to_z-of_z w64 c.four_signed.result fits)
    (omega arith, omega (arith, c.in-len5-up.len_at_least), λ N wide. c.four_signed.ensures N (omega arith))
