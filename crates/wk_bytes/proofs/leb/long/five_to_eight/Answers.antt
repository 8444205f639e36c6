use Rattle.std.proofs.Common.{inl, refl, arith, rules}
use Rattle.std.specs.Prelude.{FitsSigned}
use Rattle.std.specs.Int.{w64}
use Rattle.std.proofs.lemmas.Int.{to_z-of_z}
use Rattle.wk_bytes.specs.LebLaws.{SpellsS-fits}
use Rattle.wk_bytes.proofs.LebShort.{first_five, after_five}
use Rattle.wk_bytes.proofs.leb.long.five_to_eight.Goals as goal

pub returns-then-e-lt128 : goal.returns-then-e-lt128
returns-then-e-lt128 c =
    let fits : FitsSigned w64 c.five_signed.result = search rules in
    rw (first_five c.args.bytes.now c.in-len5-up.len_at_least, to_z-of_z w64 c.five_signed.result fits)
    (omega arith, c.in-len5-up.len_at_least, c.five_signed.ensures 7 64 (inl (omega arith)) (omega arith))

pub below-requires-clause-room : goal.below-requires-clause-room
below-requires-clause-room c =
    let fits : FitsSigned w64 c.in_ok-high.high = search rules in
    rw (to_z-of_z w64 c.in_ok-high.high fits) (SpellsS-fits 29 _ _ c.in_ok-high.ensures.3)

pub returns : goal.returns
returns c =
    let fits : FitsSigned w64 c.below.result = search rules in
    let high_fits : FitsSigned w64 c.in_ok-high.high = search rules in
    let front = after_five c.args.bytes.now _ c.in_ok-high.len c.in-len5-up.len_at_least refl in
    rw (front, to_z-of_z w64 c.below.result fits) (
      omega arith,
      omega (arith, c.in_ok-high.ensures.2, c.in-len5-up.len_at_least),
      c.below.ensures _ (rw (to_z-of_z w64 c.in_ok-high.high high_fits) c.in_ok-high.ensures.3),
    )
