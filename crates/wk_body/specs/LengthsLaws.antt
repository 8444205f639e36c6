-- What a length tells that is, or is not, within the limit.
use Rattle.std.proofs.Common.{◌≡◌, ℕ, ◌<◌, ◌≤◌, nat_le, Some, None, ◌∙◌, inl, inr}
use Rattle.std.proofs.lemmas.Bool.{cases_Bool, cond-true, cond-false, leb-true, leb-false}
use Rattle.wk_bytes.specs.Frames.{limit}
use Rattle.wk_body.specs.Lengths.{limited}

-- a length that is told is that, and within the limit
pub limited_some : (m n : ℕ) → Some m ≡ limited n → (m ≡ n) × (n ≤ limit)
limited_some m n e =
    elim (cases_Bool (nat_le n limit)) [
      | inl t ↦ let is : Some m ≡ Some n = e ∙ cond-true (nat_le n limit) (Some n) None t in (cc, leb-true n limit t)
      | inr f ↦ let is : Some m ≡ None = e ∙ cond-false (nat_le n limit) (Some n) None f in absurd cc
    ]

-- one that is not told is past the limit
pub limited_none : (n : ℕ) → None ≡ limited n → limit < n
limited_none n e =
    elim (cases_Bool (nat_le n limit)) [
      | inl t ↦ let is : None ≡ Some n = e ∙ cond-true (nat_le n limit) (Some n) None t in absurd cc
      | inr f ↦ leb-false n limit f
    ]
