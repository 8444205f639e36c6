-- The loops that pass over an integer, and over several.
use Rattle.std.proofs.Common.{◌≡◌, ℕ, suc, ◌+◌, ◌-◌, ◌<◌, ◌≤◌, List, [], ◌∷◌, ◌++◌, length, drop, get_or, refl, sym, ap, subst, ◌∙◌, arith, append_assoc}
use Rattle.std.proofs.Common.{length-append}
use Rattle.std.proofs.lemmas.List.{drop_more, drop_all}
use Rattle.wk_body.specs.ShiftSteps.{IsInteger, AreIntegers}
use Rattle.wk_body.proofs.Shifting.{behind_bytes}

-- ---- one integer

-- Of an integer at `at`, so many bytes are left at `end`.
pub record InInteger (front later code : List ℕ) (at end : ℕ) : Type 0 where
  pub left : List ℕ
  pub integer : IsInteger left
  pub ahead : drop end code ≡ left ++ later
  pub place : at + length front ≡ end + length left

pub integer_begins : (front later code : List ℕ) (at : ℕ) → IsInteger front → drop at code ≡ front ++ later → InInteger front later code at at
integer_begins front later code at h e = record { left = front; integer = h; ahead = e; place = refl }

module _ (front later code : List ℕ) (at end : ℕ) where
  ends_by : (left : List ℕ) → IsInteger left → drop end code ≡ left ++ later → end < length code → get_or code end 0 < 128 → length left ≡ 1
  ends_by [] h e lt small = absurd h
  ends_by (x ∷ []) h e lt small = refl
  ends_by (x ∷ y ∷ b) h e lt small =
      let f : get_or code end 0 ∷ drop (end + 1) code ≡ x ∷ y ∷ (b ++ later) = sym (drop_more code end 0 lt) ∙ e in
      let same : get_or code end 0 ≡ x = cc in
      absurd (omega (arith, same, h.0, small))

  -- its last byte stands there
  pub integer_ends : end < length code → get_or code end 0 < 128 → InInteger front later code at end → at + length front ≡ end + 1
  integer_ends lt small i = omega (arith, i.place, ends_by i.left i.integer i.ahead lt small)

  more_by : (left : List ℕ) → IsInteger left → drop end code ≡ left ++ later → at + length front ≡ end + length left → end < length code
      → 128 ≤ get_or code end 0 → InInteger front later code at (end + 1)
  more_by [] h e place lt large = absurd h
  more_by (x ∷ []) h e place lt large =
      let f : get_or code end 0 ∷ drop (end + 1) code ≡ x ∷ later = sym (drop_more code end 0 lt) ∙ e in
      let same : get_or code end 0 ≡ x = cc in
      absurd (omega (arith, same, h, large))
  more_by (x ∷ y ∷ b) h e place lt large =
      let f : get_or code end 0 ∷ drop (end + 1) code ≡ x ∷ y ∷ (b ++ later) = sym (drop_more code end 0 lt) ∙ e in
      record { left = y ∷ b; integer = h.1; ahead = cc; place = omega (arith, place) }

  -- more of them come
  pub integer_more : end < length code → 128 ≤ get_or code end 0 → InInteger front later code at end → InInteger front later code at (end + 1)
  integer_more lt large i = more_by i.left i.integer i.ahead i.place lt large

  some_bytes : (left : List ℕ) → IsInteger left → 0 < length left
  some_bytes [] h = absurd h
  some_bytes (x ∷ b) h = omega arith

  -- it does not end with the code
  pub integer_there : length code ≤ end → InInteger front later code at end → ⊥
  integer_there le i = omega (arith, some_bytes i.left i.integer, length-append i.left later, ap length (sym i.ahead ∙ drop_all end code le))

-- ---- several

-- of integers at `at`, so many are left at `end`
pub record InIntegers (front later code : List ℕ) (at count end : ℕ) : Type 0 where
  pub left : List ℕ
  pub integers : AreIntegers count left
  pub ahead : drop end code ≡ left ++ later
  pub place : at + length front ≡ end + length left

pub integers_begin : (front later code : List ℕ) (at count : ℕ) → AreIntegers count front → drop at code ≡ front ++ later
    → InIntegers front later code at (count - 0) at
integers_begin front later code at count h e =
    let all : count - 0 ≡ count = omega arith in
    rw all (record { left = front; integers = h; ahead = e; place = refl })

module _ (front later code : List ℕ) (at count : ℕ) where
  -- the first of those left, and the others
  pub record One (left end : ℕ) : Type 0 where
    pub bytes : List ℕ
    pub others : List ℕ
    pub integer : IsInteger bytes
    pub ahead : drop end code ≡ bytes ++ (others ++ later)
    pub then : InIntegers front later code at left (end + length bytes)

  one_by : (n left end : ℕ) → n ≡ suc left → (i : InIntegers front later code at n end) → One left end
  one_by n left end is i =
      let some : AreIntegers (suc left) i.left = subst (λ (k : ℕ). AreIntegers k i.left) is i.integers in
      let ahead : drop end code ≡ some.0 ++ (some.1 ++ later) = i.ahead ∙ ap (λ (b : List ℕ). b ++ later) some.4 ∙ append_assoc some.0 some.1 later in
      record {
        bytes = some.0;
        others = some.1;
        integer = some.2;
        ahead = ahead;
        then = record {
          left = some.1;
          integers = some.3;
          ahead = behind_bytes end code some.0 (some.1 ++ later) ahead;
          place =
              omega (arith, i.place, ap length some.4, length-append some.0 some.1);
        };
      }

  pub integers_one : (i end : ℕ) → i < count → InIntegers front later code at (count - i) end → One (count - (i + 1)) end
  integers_one i end lt h = one_by (count - i) (count - (i + 1)) end (omega arith) h

  none_by : (n end : ℕ) → n ≡ 0 → (i : InIntegers front later code at n end) → end ≡ at + length front
  none_by n end is i =
      let none : AreIntegers 0 i.left = subst (λ (k : ℕ). AreIntegers k i.left) is i.integers in
      omega (arith, i.place, ap length none)

  pub integers_end : (i end : ℕ) → count ≤ i → InIntegers front later code at (count - i) end → end ≡ at + length front
  integers_end i end le h = none_by (count - i) end (omega arith) h
