-- Lengths that are told up to the greatest number.
use Rattle.std.proofs.Common.{◌≡◌, ℕ, ◌+◌, ◌-◌, ◌^◌, ◌<◌, min, inl, inr, Option, None, subst, sym, ◌∙◌, refl, arith}
use Rattle.std.proofs.lemmas.Bool.{cases_lt, lt-leb}
use Rattle.wk_body.specs.Lengths.{limited, GrowsBy}

past : (n : ℕ) → 2147483647 < n → limited n ≡ None
past n h = rw (lt-leb n 2147483647 h) refl

-- what has too many bytes for a number is past the limit, whatever comes before
pub grows_capped : (sum more : ℕ) (old new : Option ℕ) → sum ≡ min more (2 ^ 64 - 1) → GrowsBy sum old new → GrowsBy more old new
grows_capped sum more old new e g =
    elim (cases_lt more (2 ^ 64)) [
      | inl lt ↦ let same : sum ≡ more = omega (arith, e) in subst (λ (n : ℕ). GrowsBy n old new) same g
      | inr le ↦
          let all : sum ≡ 2 ^ 64 - 1 = omega (arith, e) in
          λ n h. g n h ∙ past (n + sum) (omega (arith, all)) ∙ sym (past (n + more) (omega arith))
    ]
