-- The first of the pieces.
use Rattle.std.proofs.Common.{◌≡◌, ◌+◌, ℕ, nat_lt, Bool, Some, None, List, [], ◌∷◌, length, take, drop, refl, ap, ◌∙◌, arith}
use Rattle.std.specs.List.{slice_split, position_or_len, position}
use Rattle.std.proofs.lemmas.List.Splits.{slice_split_first, slice_split_none}
use Rattle.std.proofs.lemmas.List.Sums.{fails_before_first}
use Rattle.wk_bytes.specs.LebLaws.{found_below, none_below}

module _ (p : ℕ → Bool) (xs : List ℕ) where
  pub cut_at : (i : ℕ) → position p xs ≡ Some i → slice_split p xs ≡ take i xs ∷ slice_split p (drop (i + 1) xs)
  cut_at i e =
      let f = found_below (nat_lt (position_or_len p xs) (length xs)) (position_or_len p xs) (length xs) i refl e in
      slice_split_first p xs 0 f.0 ∙ ap (λ (k : ℕ). take k xs ∷ slice_split p (drop (k + 1) xs)) f.1

  pub cut_none : position p xs ≡ None → slice_split p xs ≡ xs ∷ []
  cut_none e =
      let f = none_below (nat_lt (position_or_len p xs) (length xs)) (position_or_len p xs) (length xs) refl e in
      slice_split_none p xs (λ k d less. fails_before_first p xs k d (omega (arith, f, less)))
