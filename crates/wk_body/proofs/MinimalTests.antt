-- Tokens that are as short as they may be: integers of two bytes, and the types of blocks.
use Rattle.std.proofs.Common.{◌≡◌, ℕ, ◌+◌, ◌*◌, ◌/◌, ◌<◌, ◌≤◌, true, not, eqb, eq-eqb, inl, inr, refl, ap, arith}
use Rattle.std.proofs.lemmas.Bool.{cases_eq}
use Rattle.std.proofs.lemmas.Nat.Bits.{bit_at_and}
use Rattle.std.specs.Int.{bit_at}
use Rattle.std.specs.Int.Bits.{bit_and}
use Rattle.wk_body.specs.Minimal.{IsShortType, IsWideIndex, IsWideNumber}
use Rattle.wk_body.specs.declared.types.ValType.TheVariants.{I32, I64, F32, F64}

-- ---- two bytes

-- a bit of a mask is what is left of it
bit_left : (n mask i left : ℕ) → bit_at mask i ≡ 1 → bit_and n mask ≡ left → bit_at n i ≡ bit_at left i
bit_left n mask i left set is = omega (arith, bit_at_and n mask i, set, ap (λ (m : ℕ). bit_at m i) is)

goes_on : (both x y : ℕ) → x < 256 → y < 256 → both ≡ x + y * 256 → bit_and both 0x8080 ≡ 0x0080 → (128 ≤ x) × (y < 128)
goes_on both x y p q is left =
    let low = bit_left both 0x8080 7 0x0080 refl left in
    let high = bit_left both 0x8080 15 0x0080 refl left in
    (omega (arith, low, is), omega (arith, high, is))

-- what is said not to be is not
unlike : (n m : ℕ) → not (eqb n m) ≡ true → n ≡ m → ⊥
unlike n m differs e = let is = eq-eqb n m e in let gone = rw is at differs in cc

pub wide_index_test : (both x y : ℕ) → bit_and both 0x8080 ≡ 0x0080 → not (eqb (both / 128) 1) ≡ true → x < 256 → y < 256 → both ≡ x + y * 256 → IsWideIndex x y
wide_index_test both x y left more p q is =
    let g = goes_on both x y p q is left in
    elim (cases_eq y 0) [
      | inl e ↦ absurd (unlike (both / 128) 1 more (omega (arith, g.0, p, is, e)))
      | inr ne ↦ (g.0, p, omega (arith, ne), g.1)
    ]

pub wide_number_test : (both x y : ℕ) → bit_and both 0x8080 ≡ 0x0080 → (both / 64 ≡ 2 → ⊥) → not (eqb (both / 64) 511) ≡ true → x < 256 → y < 256
    → both ≡ x + y * 256 → IsWideNumber x y
wide_number_test both x y left above below p q is =
    let g = goes_on both x y p q is left in
    (g.0, p, g.1, λ e. omega (arith, g.0, is, e, above), λ e. omega (arith, p, is, e, unlike (both / 64) 511 below))

pub wide_second_test : (both x y z : ℕ) → bit_and both 0x8080 ≡ 0x8000 → 0 < z → z < 128 → x < 256 → y < 256 → both ≡ x + y * 256 → (x < 128) × IsWideIndex y z
wide_second_test both x y z left some few p q is =
    let low = bit_left both 0x8080 7 0x8000 refl left in
    let high = bit_left both 0x8080 15 0x8000 refl left in
    (omega (arith, low, is), (omega (arith, high, is), q, some, few))

-- ---- block types

pub value_types : (x : ℕ) → 0x7C ≤ x → x ≤ 0x7F → IsShortType x
value_types x low high =
    elim (cases_eq x 0x7C) [
      | inl e ↦ inr (F64, e)
      | inr a ↦ elim (cases_eq x 0x7D) [
        | inl e ↦ inr (F32, e)
        | inr b ↦ elim (cases_eq x 0x7E) [
          | inl e ↦ inr (I64, e)
          | inr d ↦ inr (I32, omega (arith, a, b, d))
        ]
      ]
    ]
