-- The bytes of integers and of types, of which the last alone is below 128.
use Rattle.std.proofs.Common.{◌≡◌, ℕ, zero, suc, ◌+◌, ◌*◌, ◌/◌, ◌%◌, ◌<◌, ◌≤◌, ℤ, pos, negsuc, inl, inr, List, [], ◌∷◌, ◌++◌, length, refl, sym, ap}
use Rattle.std.proofs.Common.{subst, ◌∙◌, arith, append_assoc}
use Rattle.std.specs.List.{flat_map}
use Rattle.std.proofs.lemmas.Bool.{cases_Bool, cases_lt}
use Rattle.std.proofs.lemmas.List.{append-nil}
use Rattle.wk_bytes.specs.Short.{short, short_signed, is_lastS, lowS, highS, sizeS}
use Rattle.wk_bytes.specs.ShortLaws.{short-last, short-more, short_signed-last, short_signed-more, smaller_signed}
use Rattle.wk_body.specs.declared.types.BlockType.{BlockType}
use Rattle.wk_body.specs.declared.types.BlockType.TheVariants.{Empty, Value, Index}
use Rattle.wk_body.specs.declared.types.ValType.{ValType}
use Rattle.wk_body.specs.declared.types.ValType.TheVariants.{I32, I64, F32, F64}
use Rattle.wk_body.specs.declared.types.LocalGroup.{LocalGroup}
use Rattle.wk_body.specs.ValTypes.{valtype_byte}
use Rattle.wk_body.specs.Written.{type_bytes, written_group}
use Rattle.wk_body.specs.ShiftSteps.{IsInteger, AreIntegers}

-- ---- one

more_bytes : (x : ℕ) (b : List ℕ) → 128 ≤ x → IsInteger b → IsInteger (x ∷ b)
more_bytes x [] large h = absurd h
more_bytes x (y ∷ b) large h = (large, h)

short_up_to : (k n : ℕ) → n ≤ k → IsInteger (short n)
short_up_to zero n le = rw (short-last n (omega arith)) (omega arith)
short_up_to (suc k) n le =
    elim (cases_lt n 128) [
      | inl small ↦ rw (short-last n small) small
      | inr large ↦ rw (short-more n large) (more_bytes (n % 128 + 128) (short (n / 128)) (omega arith) (short_up_to k (n / 128) (omega arith)))
    ]

pub short_integer : (n : ℕ) → IsInteger (short n)
short_integer n = short_up_to n n (omega arith)

low_small : (z : ℤ) → lowS z < 128
low_small (pos n) = omega arith
low_small (negsuc n) = omega arith

signed_up_to : (k : ℕ) (z : ℤ) → sizeS z ≤ k → IsInteger (short_signed z)
signed_up_to zero z le =
    elim (cases_Bool (is_lastS z)) [
      | inl one ↦ rw (short_signed-last z one) (low_small z)
      | inr more ↦ absurd (omega (arith, smaller_signed z more))
    ]
signed_up_to (suc k) z le =
    elim (cases_Bool (is_lastS z)) [
      | inl one ↦ rw (short_signed-last z one) (low_small z)
      | inr more ↦
          let less = smaller_signed z more in
          rw (short_signed-more z more) (more_bytes (lowS z + 128) (short_signed (highS z)) (omega arith) (signed_up_to k (highS z) (omega arith)))
    ]

pub signed_integer : (z : ℤ) → IsInteger (short_signed z)
signed_integer z = signed_up_to (sizeS z) z (omega arith)

valtype_integer : (t : ValType) → IsInteger (valtype_byte t ∷ [])
valtype_integer I32 = omega arith
valtype_integer I64 = omega arith
valtype_integer F32 = omega arith
valtype_integer F64 = omega arith

pub type_integer : (ty : BlockType) → IsInteger (type_bytes ty)
type_integer Empty = omega arith
type_integer (Value t) = valtype_integer t
type_integer (Index x) = signed_integer (pos x)

-- ---- several

pub one_integer : (b : List ℕ) → IsInteger b → AreIntegers 1 b
one_integer b h = (b, [], h, refl, sym (append-nil b))

pub two_integers : (a b : List ℕ) → IsInteger a → IsInteger b → AreIntegers 2 (a ++ b)
two_integers a b h k = (a, b, h, one_integer b k, refl)

pub labels_integers : (labels : List ℕ) (other : ℕ) → AreIntegers (suc (length labels)) (flat_map short labels ++ short other)
labels_integers [] other = one_integer (short other) (short_integer other)
labels_integers (x ∷ xs) other =
    (short x, flat_map short xs ++ short other, short_integer x, labels_integers xs other, append_assoc (short x) (flat_map short xs) (short other))

pub groups_integers : (gs : List LocalGroup) → AreIntegers (2 * length gs) (flat_map written_group gs)
groups_integers [] = refl
groups_integers (g ∷ gs) =
    let behind = flat_map written_group gs in
    let count : suc (suc (2 * length gs)) ≡ 2 * suc (length gs) = omega arith in
    subst (λ (n : ℕ). AreIntegers n (written_group g ++ behind)) count (
      short g.count,
      valtype_byte g.ty ∷ behind,
      short_integer g.count,
      (valtype_byte g.ty ∷ [], behind, valtype_integer g.ty, groups_integers gs, refl),
      append_assoc (short g.count) (valtype_byte g.ty ∷ []) behind,
    )

-- ---- integers of one byte

-- one whose first byte is below 128 has no other
one_byte : (b later rest : List ℕ) (x : ℕ) → IsInteger b → b ++ later ≡ x ∷ rest → x < 128 → (b ≡ x ∷ []) × (later ≡ rest)
one_byte [] later rest x h e small = absurd h
one_byte (y ∷ []) later rest x h e small = (cc, cc)
one_byte (y ∷ z ∷ b) later rest x h e small = let same : y ≡ x = cc in absurd (omega (arith, same, h.0, small))

-- so many of them, where these bytes are their first ones
pub brief_integers : (n : ℕ) (b later rest : List ℕ) (x y : ℕ) → n ≤ 2 → AreIntegers n b → b ++ later ≡ x ∷ y ∷ rest → (0 < n → x < 128)
    → (1 < n → y < 128) → length b ≡ n
brief_integers zero b later rest x y few h e first second = ap length h
brief_integers (suc zero) b later rest x y few h e first second =
    let whole : b ≡ h.0 = h.4 ∙ ap (λ (c : List ℕ). h.0 ++ c) h.3 ∙ append-nil h.0 in
    let one = one_byte b later (y ∷ rest) x (subst IsInteger (sym whole) h.2) e (first (omega arith)) in
    ap length one.0
brief_integers (suc (suc zero)) b later rest x y few h e first second =
    let k = h.3 in
    let all : h.0 ++ (h.1 ++ later) ≡ x ∷ y ∷ rest = sym (append_assoc h.0 h.1 later) ∙ ap (λ (c : List ℕ). c ++ later) (sym h.4) ∙ e in
    let one = one_byte h.0 (h.1 ++ later) (y ∷ rest) x h.2 all (first (omega arith)) in
    let whole : h.1 ≡ k.0 = k.4 ∙ ap (λ (c : List ℕ). k.0 ++ c) k.3 ∙ append-nil k.0 in
    let two = one_byte h.1 later rest y (subst IsInteger (sym whole) k.2) one.1 (second (omega arith)) in
    ap length h.4 ∙ ap length (ap (λ (c : List ℕ). c ++ h.1) one.0 ∙ ap (λ (c : List ℕ). x ∷ c) two.0)
brief_integers (suc (suc (suc n))) b later rest x y few h e first second = absurd (omega arith)
