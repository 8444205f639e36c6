-- Bytes in hexadecimal digits, piece after piece.
use Rattle.std.proofs.Common.{◌≡◌, ℕ, zero, suc, ◌-◌, ◌/◌, ◌%◌, ◌<◌, Bool, true, ◌&&◌, T, eqb, eqb→eq, eq-zero-or-pos, List, [], ◌∷◌, ◌++◌, get_or, inl, inr}
use Rattle.std.proofs.Common.{refl, ap, ◌∙◌, append_assoc, arith}
use lib.Ieee.Fits.{and_l, and_r}
use Rattle.std.specs.List.{flat_map}
use Rattle.wk_bytes.specs.HexDigits.{hex_digit}
use Rattle.wk_list.specs.Text.{both_digits}
use Rattle.std.specs.Prelude.{slice_index}
use Rattle.hex.specs.Hex.{encode_lower, encode_with, lower_digits}

encode_append : (table a b : List ℕ) → encode_with table (a ++ b) ≡ encode_with table a ++ encode_with table b
unfolding encode_with
encode_append table [] b = refl
encode_append table (x ∷ a) b = ap (λ (ds : List ℕ). slice_index table (x / 16) ∷ slice_index table (x % 16) ∷ ds) (encode_append table a b)

-- a front was put, and the rest comes next
pub chunked : (old between rest front back : List ℕ) → rest ≡ front ++ back → between ≡ old ++ encode_lower front
    → between ++ encode_lower back ≡ old ++ encode_lower rest
chunked old between rest front back parts e =
    rw (parts, encode_append lower_digits front back)
    (ap (λ (t : List ℕ). t ++ encode_lower back) e ∙ append_assoc old (encode_lower front) (encode_lower back))

-- ---- the digits of a table are those that are computed

abbrev are_digits : ℕ → Bool
are_digits zero = true
are_digits (suc d) = eqb (slice_index lower_digits d) (hex_digit d) && are_digits d

below : (n d : ℕ) → T (are_digits n) → d < n → slice_index lower_digits d ≡ hex_digit d
below zero d t h = absurd (omega arith)
below (suc n) d t h =
    elim (eq-zero-or-pos (n - d)) [
      | inl z ↦ let e : d ≡ n = omega arith in rw e (eqb→eq _ _ (and_l _ (are_digits n) t))
      | inr g ↦ below n d (and_r _ (are_digits n) t) (omega arith)
    ]

digit_at : (d : ℕ) → d < 16 → slice_index lower_digits d ≡ hex_digit d
digit_at d h = below 16 d tt h

-- bytes, each in both its digits
pub encoded : (bytes : List ℕ) → ((i : ℕ) → get_or bytes i 0 < 256) → encode_lower bytes ≡ flat_map both_digits bytes
unfolding encode_with
encoded [] small = refl
encoded (b ∷ bytes) small =
    let first : b < 256 = small 0 in
    let high : slice_index lower_digits (b / 16) ≡ hex_digit (b / 16) = digit_at (b / 16) (omega arith) in
    let low : slice_index lower_digits (b % 16) ≡ hex_digit (b % 16) = digit_at (b % 16) (omega arith) in
    rw (high, low, encoded bytes (λ i. small (suc i))) refl
