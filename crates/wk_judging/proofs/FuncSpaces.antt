-- Functions in one list, those that are imported in front, to which one comes that is imported.
use Rattle.std.proofs.Common.{◌≡◌, ℕ, ◌+◌, ◌≤◌, List, [], ◌∷◌, ◌++◌, length, take, drop, sym, ap, ◌∙◌}
use Rattle.std.specs.List.{insert}
use Rattle.std.proofs.Math.Seq.{take-append-add, drop-append-add}
use Rattle.std.proofs.lemmas.List.{length-take-le}
use Rattle.wk_judging.specs.Contexts.{FuncsSoFar}

front_more : (n : ℕ) (xs : List ℕ) (x : ℕ) → n ≤ length xs → take (n + 1) (insert xs n x) ≡ take n xs ++ x ∷ []
front_more n xs x h = ap (λ m. take (m + 1) (insert xs n x)) (sym (length-take-le n xs h)) ∙ take-append-add (take n xs) (x ∷ drop n xs) 1

back_stays : (n : ℕ) (xs : List ℕ) (x : ℕ) → n ≤ length xs → drop (n + 1) (insert xs n x) ≡ drop n xs
back_stays n xs x h = ap (λ m. drop (m + 1) (insert xs n x)) (sym (length-take-le n xs h)) ∙ drop-append-add (take n xs) (x ∷ drop n xs) 1

pub imported_more : (n : ℕ) (xs : List ℕ) (x : ℕ) (s : FuncsSoFar) → n ≤ length xs → record { imported = take n xs; own = drop n xs } ≡ s
    → record { imported = take (n + 1) (insert xs n x); own = drop (n + 1) (insert xs n x) } ≡ record s { imported = s.imported ++ x ∷ [] }
imported_more n xs x s h is =
    (λ i. record { imported = front_more n xs x h i; own = back_stays n xs x h i })
    ∙ ap (λ (p : FuncsSoFar). record p { imported = p.imported ++ x ∷ [] }) is
