use Rattle.std.proofs.Common.{◌≡◌, ◌⊎◌, [], ◌∷◌, get_or, inl, inr, arith, rules}
use Rattle.std.specs.Prelude.{FitsSigned}
use Rattle.std.specs.Int.{w64}
use Rattle.std.proofs.lemmas.Int.{to_z-of_z}
use Rattle.wk_bytes.specs.LebLaws.{SpellsS-fits}
use Rattle.wk_bytes.proofs.LebWord.{fits_above, front_nine, front_ten}
use Rattle.wk_bytes.proofs.leb.long.nine_or_ten.Goals as goal
use Rattle.wk_bytes.proofs.leb.long.nine_or_ten.Goals.{then-j-eq0-via-then-j-eq0, then-j-eq0-via-else-j-eq0+then-j-eq127}

pub returns-then-i-lt128 : goal.returns-then-i-lt128
returns-then-i-lt128 c =
    let fits : FitsSigned w64 c.above.result = search rules in
    let high_fits : FitsSigned w64 c.one_signed.result = search rules in
    rw (
      front_nine c.args.bytes.now c.in-len10-up.len_at_least,
      to_z-of_z w64 c.above.result fits,
      c.above.ensures,
      to_z-of_z w64 c.one_signed.result high_fits,
    )
    (omega arith, omega (arith, c.in-len10-up.len_at_least), c.in_ok-low.ensures.spelling _ _ (c.one_signed.ensures 8 (omega arith)))

pub above-requires-then-j-eq0 : goal.above-requires-then-j-eq0
above-requires-then-j-eq0 c =
    let high_fits : FitsSigned w64 c.two_signed.result = search rules in
    let sign : (get_or c.args.bytes.now 9 0 ≡ 0) ⊎ (get_or c.args.bytes.now 9 0 ≡ 127) = elim c.then-j-eq0.branch [
      | then-j-eq0-via-then-j-eq0 w ↦ inl w.if-j-eq0.true
      | then-j-eq0-via-else-j-eq0+then-j-eq127 w ↦ inr w.if-j-eq127.true
    ] in
    rw (to_z-of_z w64 c.two_signed.result high_fits)
    (fits_above c.in_ok-low.low c.two_signed.result c.in_ok-low.ensures.room
    (SpellsS-fits 8 (get_or c.args.bytes.now 8 0 ∷ get_or c.args.bytes.now 9 0 ∷ []) _ (c.two_signed.ensures.narrow sign)))

pub returns-then-j-eq0 : goal.returns-then-j-eq0
returns-then-j-eq0 c =
    let fits : FitsSigned w64 c.above-then-j-eq0.result = search rules in
    let high_fits : FitsSigned w64 c.two_signed.result = search rules in
    let sign : (get_or c.args.bytes.now 9 0 ≡ 0) ⊎ (get_or c.args.bytes.now 9 0 ≡ 127) = elim c.then-j-eq0.branch [
      | then-j-eq0-via-then-j-eq0 w ↦ inl w.if-j-eq0.true
      | then-j-eq0-via-else-j-eq0+then-j-eq127 w ↦ inr w.if-j-eq127.true
    ] in
    rw (
      front_ten c.args.bytes.now c.in-len10-up.len_at_least,
      to_z-of_z w64 c.above-then-j-eq0.result fits,
      c.above-then-j-eq0.ensures,
      to_z-of_z w64 c.two_signed.result high_fits,
    )
    (omega arith, c.in-len10-up.len_at_least, c.in_ok-low.ensures.spelling _ _ (c.two_signed.ensures.narrow sign))
