-- What holds of each byte, by a test of all 256, and tables with a row for each.
use Rattle.std.proofs.Common.{◌≡◌, ℕ, zero, suc, ◌<◌, Bool, true, ◌&&◌, eqb, inl, inr, List, get_or, subst, arith}
use Rattle.std.proofs.lemmas.Bool.{eqb-true, and_parts, cases_lt}

-- each number below that passes a test
abbrev pub all_below : ℕ → (ℕ → Bool) → Bool
all_below zero test = true
all_below (suc n) test = test n && all_below n test

pub below : (n : ℕ) (test : ℕ → Bool) (x : ℕ) → all_below n test ≡ true → x < n → test x ≡ true
below zero test x all lt = absurd (omega arith)
below (suc n) test x all lt =
    let both = and_parts (test n) (all_below n test) all in
    elim (cases_lt x n) [
      | inl less ↦ below n test x both.1 less
      | inr more ↦ let same : n ≡ x = omega arith in subst (λ (y : ℕ). test y ≡ true) same both.0
    ]

-- the row of a byte is what a function gives of it
abbrev pub is_row : List ℕ → (ℕ → ℕ) → ℕ → Bool
is_row table f b = eqb (get_or table b 0) (f b)

pub row_at : (table : List ℕ) (f : ℕ → ℕ) → all_below 256 (is_row table f) ≡ true → (b : ℕ) → b < 256 → get_or table b 0 ≡ f b
row_at table f all b h = eqb-true (get_or table b 0) (f b) (below 256 (is_row table f) b all h)
