-- The digits are those that a format of a fixed width writes.
use Rattle.std.proofs.Common.{◌≡◌, ℕ, zero, suc, ◌+◌, ◌-◌, ◌/◌, ◌%◌, ◌^◌, ◌<◌, ◌≤◌, false, inl, inr, List, [], ◌∷◌, ◌++◌, length, replicate, refl, sym, ap, ◌∙◌}
use Rattle.std.proofs.Common.{append_assoc, append-nil, arith}
use Rattle.std.proofs.Math.Nat.{pow-suc, eq-zero-or-pos}
use Rattle.std.proofs.lemmas.List.{replicate_more}
use Rattle.std.proofs.lemmas.Bool.{ne_eqb}
use Rattle.std.specs.Fmt.{digits, digits_onto, padded_integral, char_count, format_spec}
use Rattle.wk_bytes.specs.HexDigits.{hex_digit, hex_digits}

digits_of_zero : (k : ℕ) → hex_digits k 0 ≡ replicate k 48
unfolding hex_digits
digits_of_zero zero = refl
digits_of_zero (suc k) = let more : k + 1 ≡ suc k = omega arith in
    ap (λ (ds : List ℕ). ds ++ 48 ∷ []) (digits_of_zero k) ∙ replicate_more k 48 ∙ ap (λ (m : ℕ). replicate m 48) more

-- the digits as std writes them
abbrev written : ℕ → ℕ → List ℕ → List ℕ
written j n acc = digits_onto j 16 false n acc

-- with zeros in front, they are k digits
record IsFilled (k n : ℕ) (acc ds : List ℕ) : Type 0 where
  few : length ds ≤ k + length acc
  same : replicate (k + length acc - length ds) 48 ++ ds ≡ hex_digits k n ++ acc

filled_last : (k j n : ℕ) (acc : List ℕ) → n / 16 ≡ 0 → IsFilled (suc k) n acc (written (suc j) n acc)
unfolding hex_digits
filled_last k j n acc e =
    let last : written (suc j) n acc ≡ hex_digit (n % 16) ∷ acc = rw e refl in
    let zeros : suc k + length acc - length (hex_digit (n % 16) ∷ acc) ≡ k = omega arith in
    rw last (record {
      few = omega arith;
      same = ap (λ (m : ℕ). replicate m 48 ++ hex_digit (n % 16) ∷ acc) zeros
          ∙ ap (λ (ds : List ℕ). ds ++ hex_digit (n % 16) ∷ acc) (sym (digits_of_zero k) ∙ ap (hex_digits k) (sym e))
          ∙ sym (append_assoc (hex_digits k (n / 16)) (hex_digit (n % 16) ∷ []) acc);
    })

filled : (k j n : ℕ) (acc : List ℕ) → k ≤ j → n < 16 ^ suc k → IsFilled (suc k) n acc (written (suc j) n acc)
unfolding hex_digits
filled zero j n acc room small = filled_last zero j n acc (omega arith)
filled (suc k) zero n acc room small = absurd (omega arith)
filled (suc k) (suc j) n acc room small = elim (eq-zero-or-pos (n / 16)) [
  | inl e ↦ filled_last (suc k) (suc j) n acc e
  | inr more ↦
      let g : ℕ = hex_digit (n % 16) in
      let first : written (suc (suc j)) n acc ≡ written (suc j) (n / 16) (g ∷ acc) = rw (ne_eqb (n / 16) 0 (omega arith)) refl in
      let rest = filled k j (n / 16) (g ∷ acc) (omega arith) (omega (arith, pow-suc 16 (suc k))) in
      let count : suc (suc k) + length acc - length (written (suc j) (n / 16) (g ∷ acc))
      ≡ suc k + length (g ∷ acc) - length (written (suc j) (n / 16) (g ∷ acc)) = omega arith in
      rw first (record {
        few = omega (arith, rest.few);
        same = ap (λ (m : ℕ). replicate m 48 ++ written (suc j) (n / 16) (g ∷ acc)) count ∙ rest.same
            ∙ sym (append_assoc (hex_digits (suc k) (n / 16)) (g ∷ []) acc);
      })
]

-- what a hole of that width writes, as `{:08x}`
pub padded_digits : (k n : ℕ) → k < 64 → n < 16 ^ suc k
    → padded_integral (format_spec 32 0 4 (suc k) 18446744073709551615) false [] (digits 16 false n) ≡ hex_digits (suc k) n
unfolding padded_integral char_count digits
padded_digits k n room small =
    let f = filled k 63 n [] (omega arith) small in
    let count : suc k - length (written 64 n []) - 0 - 0 ≡ suc k + 0 - length (written 64 n []) = omega arith in
    ap (λ (ds : List ℕ). replicate (suc k - length (written 64 n []) - 0 - 0) 48 ++ ds) (append-nil (written 64 n []))
    ∙ ap (λ (m : ℕ). replicate m 48 ++ written 64 n []) count ∙ f.same ∙ append-nil (hex_digits (suc k) n)
