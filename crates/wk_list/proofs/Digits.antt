-- Hexadecimal digits from the highest on.
use Rattle.std.proofs.Common.{◌≡◌, ℕ, zero, suc, ◌+◌, ◌*◌, ◌/◌, ◌%◌, ◌^◌, ◌<◌, List, [], ◌∷◌, ◌++◌, refl, sym, ap, ◌∙◌, append_assoc, append-nil, arith, ◌-◌}
use Rattle.std.proofs.Common.{Bool, true, ◌&&◌, T, eqb, get_or, inl, inr, eq-zero-or-pos, eqb→eq}
use lib.Ieee.Fits.{and_l, and_r}
use Rattle.wk_list.specs.declared.hexadecimal.TheConstants.{PAIRS}
use native.Mathlib.Nat.{pow-suc, div-div-eq-div-mul, div-one, mul_comm, mul_assoc, mod-lt, mod-eq_of_lt, mul-add-mod_self_left, div-add-mod}
use Rattle.wk_bytes.specs.HexDigits.{hex_digit, hex_digits}

-- the highest digit comes first
pub first_digit : (k n : ℕ) → hex_digits (suc k) n ≡ hex_digit (n / 16 ^ k % 16) ∷ hex_digits k n
unfolding hex_digits
first_digit zero n = ap (λ (m : ℕ). hex_digit (m % 16) ∷ []) (sym (div-one n))
first_digit (suc k) n =
    let deeper : n / 16 / 16 ^ k ≡ n / 16 ^ suc k = div-div-eq-div-mul n 16 (16 ^ k) ∙ ap (λ (m : ℕ). n / m) (mul_comm 16 (16 ^ k) ∙ sym (pow-suc 16 k)) in
    ap (λ (ds : List ℕ). ds ++ hex_digit (n % 16) ∷ []) (first_digit k (n / 16))
    ∙ ap (λ (m : ℕ). hex_digit (m % 16) ∷ (hex_digits k (n / 16) ++ hex_digit (n % 16) ∷ [])) deeper

pub eight : (n : ℕ) → hex_digits 8 n
    ≡ hex_digit (n / 0x10000000 % 16) ∷ hex_digit (n / 0x1000000 % 16) ∷ hex_digit (n / 0x100000 % 16) ∷ hex_digit (n / 0x10000 % 16)
    ∷ hex_digit (n / 0x1000 % 16) ∷ hex_digit (n / 0x100 % 16) ∷ hex_digit (n / 0x10 % 16) ∷ hex_digit (n % 16) ∷ []
unfolding hex_digits
eight n = rw (first_digit 7 n, first_digit 6 n, first_digit 5 n, first_digit 4 n, first_digit 3 n, first_digit 2 n, first_digit 1 n) refl

-- ---- a number's digits in two halves

pow_pos : (j : ℕ) → 0 < 16 ^ j
pow_pos zero = omega arith
pow_pos (suc j) = let h : 0 < 16 ^ j = pow_pos j in rw (pow-suc 16 j) (omega arith)

-- what is left behind the higher digits
left_over : (j n : ℕ) → n % 16 ^ suc j ≡ 16 * (n / 16 % 16 ^ j) + n % 16
left_over j n =
    let m : ℕ = 16 ^ j in
    let r : ℕ = 16 * (n / 16 % m) + n % 16 in
    let below : n / 16 % m < m = mod-lt (n / 16) (pow_pos j) in
    let parts : m * (n / 16 / m) + n / 16 % m ≡ n / 16 = div-add-mod (n / 16) m in
    let size : 16 ^ suc j ≡ 16 * m = pow-suc 16 j ∙ mul_comm m 16 in
    let small : r < 16 * m = omega arith in
    let regroup : 16 * m * (n / 16 / m) ≡ 16 * (m * (n / 16 / m)) = mul_assoc 16 m (n / 16 / m) in
    let whole : 16 * m * (n / 16 / m) + r ≡ n = omega arith in
    ap (λ (k : ℕ). n % k) size ∙ ap (λ (k : ℕ). k % (16 * m)) (sym whole) ∙ mul-add-mod_self_left (16 * m) (n / 16 / m) r ∙ mod-eq_of_lt small

low_digits : (j n : ℕ) → hex_digits j (n % 16 ^ j) ≡ hex_digits j n
unfolding hex_digits
low_digits zero n = refl
low_digits (suc j) n =
    let e : n % 16 ^ suc j ≡ 16 * (n / 16 % 16 ^ j) + n % 16 = left_over j n in
    let above : n % 16 ^ suc j / 16 ≡ n / 16 % 16 ^ j = omega arith in
    let last : n % 16 ^ suc j % 16 ≡ n % 16 = omega arith in
    ap (λ (k : ℕ). hex_digits j k ++ hex_digit (n % 16 ^ suc j % 16) ∷ []) above
    ∙ ap (λ (k : ℕ). hex_digits j (n / 16 % 16 ^ j) ++ hex_digit k ∷ []) last
    ∙ ap (λ (ds : List ℕ). ds ++ hex_digit (n % 16) ∷ []) (low_digits j (n / 16))

split_digits : (j k n : ℕ) → hex_digits (j + k) n ≡ hex_digits k (n / 16 ^ j) ++ hex_digits j n
unfolding hex_digits
split_digits zero k n =
    let same : 0 + k ≡ k = omega arith in
    ap (λ (m : ℕ). hex_digits m n) same ∙ ap (λ (m : ℕ). hex_digits k m) (sym (div-one n)) ∙ sym (append-nil (hex_digits k (n / 1)))
split_digits (suc j) k n =
    let next : suc j + k ≡ suc (j + k) = omega arith in
    let deeper : n / 16 / 16 ^ j ≡ n / 16 ^ suc j = div-div-eq-div-mul n 16 (16 ^ j) ∙ ap (λ (m : ℕ). n / m) (mul_comm 16 (16 ^ j) ∙ sym (pow-suc 16 j)) in
    ap (λ (m : ℕ). hex_digits m n) next
    ∙ ap (λ (ds : List ℕ). ds ++ hex_digit (n % 16) ∷ []) (split_digits j k (n / 16))
    ∙ append_assoc (hex_digits k (n / 16 / 16 ^ j)) (hex_digits j (n / 16)) (hex_digit (n % 16) ∷ [])
    ∙ ap (λ (m : ℕ). hex_digits k m ++ (hex_digits j (n / 16) ++ hex_digit (n % 16) ∷ [])) deeper

pub sixteen : (n : ℕ) → hex_digits 16 n ≡ hex_digits 8 (n / 0x100000000) ++ hex_digits 8 (n % 0x100000000)
sixteen n = split_digits 8 8 n ∙ ap (λ (ds : List ℕ). hex_digits 8 (n / 0x100000000) ++ ds) (sym (low_digits 8 n))

-- the one half behind the other
pub halves : (n : ℕ) (old between : List ℕ) → between ≡ old ++ hex_digits 8 (n / 0x100000000)
    → between ++ hex_digits 8 (n % 0x100000000) ≡ old ++ hex_digits 16 n
halves n old between e =
    ap (λ (ds : List ℕ). ds ++ hex_digits 8 (n % 0x100000000)) e
    ∙ append_assoc old (hex_digits 8 (n / 0x100000000)) (hex_digits 8 (n % 0x100000000))
    ∙ ap (λ (ds : List ℕ). old ++ ds) (sym (sixteen n))

-- ---- two digits at once, by the table

abbrev are_pairs : ℕ → Bool
are_pairs zero = true
are_pairs (suc b) = (eqb (get_or PAIRS (b * 2) 0) (hex_digit (b / 16)) && eqb (get_or PAIRS (b * 2 + 1) 0) (hex_digit (b % 16))) && are_pairs b

below : (n b : ℕ) → T (are_pairs n) → b < n → (get_or PAIRS (b * 2) 0 ≡ hex_digit (b / 16)) × (get_or PAIRS (b * 2 + 1) 0 ≡ hex_digit (b % 16))
below zero b t h = absurd (omega arith)
below (suc n) b t h =
    elim (eq-zero-or-pos (n - b)) [
      | inl z ↦ let e : b ≡ n = omega arith in let a = and_l _ (are_pairs n) t in rw e (eqb→eq _ _ (and_l _ _ a), eqb→eq _ _ (and_r _ _ a))
      | inr g ↦ below n b (and_r _ (are_pairs n) t) (omega arith)
    ]

pub pair_at : (b : ℕ) → b < 256 → (get_or PAIRS (b * 2) 0 ≡ hex_digit (b / 16)) × (get_or PAIRS (b * 2 + 1) 0 ≡ hex_digit (b % 16))
pair_at b h = below 256 b tt h

-- a number below 2 ^ 32, two digits at a time
pub eight_by_pairs : (n : ℕ) → n < 2 ^ 32 →
    hex_digit (n / 0x1000000 / 16) ∷ hex_digit (n / 0x1000000 % 16) ∷ hex_digit (n / 0x10000 % 256 / 16) ∷ hex_digit (n / 0x10000 % 256 % 16)
    ∷ hex_digit (n / 0x100 % 256 / 16) ∷ hex_digit (n / 0x100 % 256 % 16) ∷ hex_digit (n % 256 / 16) ∷ hex_digit (n % 256 % 16) ∷ []
    ≡ hex_digits 8 n
eight_by_pairs n h =
    let a : n / 0x1000000 / 16 ≡ n / 0x10000000 % 16 = omega arith in
    let c : n / 0x10000 % 256 / 16 ≡ n / 0x100000 % 16 = omega arith in
    let d : n / 0x10000 % 256 % 16 ≡ n / 0x10000 % 16 = omega arith in
    let e : n / 0x100 % 256 / 16 ≡ n / 0x1000 % 16 = omega arith in
    let f : n / 0x100 % 256 % 16 ≡ n / 0x100 % 16 = omega arith in
    let i : n % 256 / 16 ≡ n / 0x10 % 16 = omega arith in
    let j : n % 256 % 16 ≡ n % 16 = omega arith in
    rw (a, c, d, e, f, i, j) (sym (eight n))

pub put_by_pairs : (n : ℕ) (old one two three four a b c d : List ℕ) → n < 2 ^ 32
    → one ≡ old ++ a → two ≡ one ++ b → three ≡ two ++ c → four ≡ three ++ d
    → a ≡ hex_digit (n / 0x1000000 / 16) ∷ hex_digit (n / 0x1000000 % 16) ∷ []
    → b ≡ hex_digit (n / 0x10000 % 256 / 16) ∷ hex_digit (n / 0x10000 % 256 % 16) ∷ []
    → c ≡ hex_digit (n / 0x100 % 256 / 16) ∷ hex_digit (n / 0x100 % 256 % 16) ∷ []
    → d ≡ hex_digit (n % 256 / 16) ∷ hex_digit (n % 256 % 16) ∷ []
    → four ≡ old ++ hex_digits 8 n
put_by_pairs n old one two three four a b c d h e f g i p q r s =
    let joined : four ≡ old ++ (a ++ (b ++ (c ++ d))) = rw (i, g, f, e) (simp append_assoc) in
    joined ∙ rw (p, q, r, s) (ap (λ (ds : List ℕ). old ++ ds) (eight_by_pairs n h))
