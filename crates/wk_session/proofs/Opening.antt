-- What is kept of the functions of a module that is opened.
use Rattle.std.proofs.Common.{◌≡◌, ℕ, ◌+◌, ◌<◌, List, [], ◌∷◌, ◌++◌, length, map, take, slice_index_or, sym, ap, ◌∙◌}
use Rattle.std.proofs.lemmas.List.{map_more}

-- one more of what is told of each item
pub pushed : {A B : Type 0} (f : A → B) (xs : List A) (i : ℕ) (x : A) (old new : List B) (y : B) → i < length xs → x ≡ slice_index_or xs i x
    → old ≡ map f (take i xs) → new ≡ old ++ y ∷ [] → y ≡ f x
    → new ≡ map f (take (i + 1) xs)
pushed f xs i x old new y within at so_far more is =
    more
    ∙ ap (λ zs. zs ++ y ∷ []) so_far
    ∙ ap (λ z. map f (take i xs) ++ z ∷ []) (is ∙ ap f at)
    ∙ sym (map_more f xs i x within)
