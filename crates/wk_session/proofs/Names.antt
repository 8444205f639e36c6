-- Names that differ in length or in their last byte.
use Rattle.std.proofs.Common.{◌≡◌, ℕ, ◌-◌, false, List, length, get_or, ap, inl, inr}
use Rattle.std.specs.Str.{bytes_eq}
use Rattle.std.proofs.lemmas.Bool.{cases_Bool}
use Rattle.std.proofs.lemmas.Slice.Eq.{bytes_eq-Decides}

told_apart : {T : Type 0} (f : List ℕ → T) (xs ys : List ℕ) → (f xs ≡ f ys → ⊥) → bytes_eq xs ys ≡ false
told_apart f xs ys apart =
    elim (cases_Bool (bytes_eq xs ys)) [
      | inl t ↦ absurd (apart (ap f ((bytes_eq-Decides xs ys).0 t)))
      | inr n ↦ n
    ]

pub other_length : (xs ys : List ℕ) → (length xs ≡ length ys → ⊥) → bytes_eq xs ys ≡ false
other_length xs ys apart = told_apart length xs ys apart

pub other_end : (xs ys : List ℕ) → (get_or xs (length xs - 1) 0 ≡ get_or ys (length ys - 1) 0 → ⊥) → bytes_eq xs ys ≡ false
other_end xs ys apart = told_apart (λ (zs : List ℕ). get_or zs (length zs - 1) 0) xs ys apart
