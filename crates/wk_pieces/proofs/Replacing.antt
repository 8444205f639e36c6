-- Lists with some items replaced.
use Rattle.std.proofs.Common.{◌≡◌, ℕ, suc, ◌<◌, List, [], ◌∷◌, ◌++◌, length, map, set, slice_get, slice_index_or, Option, Some, None, unwrap_or, zero, refl, ap}
use Rattle.std.proofs.Common.{sym, ◌∙◌, arith, Bor}
use Rattle.std.proofs.lemmas.Option.{slice_get-get_or}
use Rattle.std.specs.Prelude.{option_map, option_copied}
use Rattle.wk_pieces.specs.Overlays.{with_items}

pub with_items_all : {A : Type 0} (xs : List A) → with_items xs [] ≡ xs
with_items_all [] = refl
with_items_all (x ∷ xs) = refl

pub with_items_none : {A : Type 0} (xs : List A) (ns : List (Option A)) → with_items xs (ns ++ None ∷ []) ≡ with_items xs ns
with_items_none [] ns = refl
with_items_none (x ∷ xs) [] = ap (λ ys. x ∷ ys) (with_items_all xs)
with_items_none (x ∷ xs) (n ∷ ns) = ap (λ ys. unwrap_or n x ∷ ys) (with_items_none xs ns)

at_end : {A : Type 0} (xs : List A) (ns : List (Option A)) (y : A) → length ns < length xs
    → with_items (set xs (length ns) y) ns ≡ with_items xs (ns ++ Some y ∷ [])
at_end [] ns y h = absurd (omega arith)
at_end (x ∷ xs) [] y h = ap (λ ys. y ∷ ys) (sym (with_items_all xs))
at_end (x ∷ xs) (n ∷ ns) y h = ap (λ ys. unwrap_or n x ∷ ys) (at_end xs ns y (omega arith))

pub with_items_some : {A : Type 0} (xs : List A) (ns : List (Option A)) (k : ℕ) (y : A) → k ≡ length ns → length ns < length xs
    → with_items (set xs k y) ns ≡ with_items xs (ns ++ Some y ∷ [])
with_items_some xs ns k y e h = ap (λ i. with_items (set xs i y) ns) e ∙ at_end xs ns y h

pub empty_list : {A : Type 0} (xs : List A) → length xs ≡ 0 → xs ≡ []
empty_list [] h = refl
empty_list (x ∷ xs) h = absurd (omega arith)

pub length-with_items : {A : Type 0} (xs : List A) (ns : List (Option A)) → length (with_items xs ns) ≡ length xs
length-with_items [] ns = refl
length-with_items (x ∷ xs) [] = refl
length-with_items (x ∷ xs) (n ∷ ns) = ap suc (length-with_items xs ns)

told_or : {A B : Type 0} (f : A → B) (n : Option A) (x : A) → f (unwrap_or n x) ≡ unwrap_or (option_map f n) (f x)
told_or f None x = refl
told_or f (Some y) x = refl

-- what is told of each item
pub map-with_items : {A B : Type 0} (f : A → B) (xs : List A) (ns : List (Option A)) → map f (with_items xs ns) ≡ with_items (map f xs) (map (option_map f) ns)
map-with_items f [] ns = refl
map-with_items f (x ∷ xs) [] = refl
map-with_items {B = B} f (x ∷ xs) (n ∷ ns) =
    ap (λ (y : B). y ∷ map f (with_items xs ns)) (told_or f n x) ∙ ap (λ (ys : List B). unwrap_or (option_map f n) (f x) ∷ ys) (map-with_items f xs ns)

-- one item more, and its place
pub with_items_push : {A : Type 0} (xs : List A) (ns : List (Option A)) (x : A) (n : Option A) → length ns ≡ length xs
    → with_items (xs ++ x ∷ []) (ns ++ n ∷ []) ≡ with_items xs ns ++ unwrap_or n x ∷ []
with_items_push [] [] x n h = refl
with_items_push [] (m ∷ ns) x n h = absurd (omega arith)
with_items_push (y ∷ xs) [] x n h = absurd (omega arith)
with_items_push (y ∷ xs) (m ∷ ns) x n h = ap (λ ys. unwrap_or m y ∷ ys) (with_items_push xs ns x n (omega arith))

-- the item of an index
with_items_at : {A : Type 0} (xs : List A) (ns : List (Option A)) (i : ℕ) (d : A) → i < length xs
    → slice_get (with_items xs ns) i ≡ Some (unwrap_or (slice_index_or ns i None) (slice_index_or xs i d))
with_items_at [] ns i d within = absurd (omega arith)
with_items_at (x ∷ xs) [] i d within = slice_get-get_or (x ∷ xs) i d within
with_items_at (x ∷ xs) (n ∷ ns) zero d within = refl
with_items_at (x ∷ xs) (n ∷ ns) (suc i) d within = with_items_at xs ns i d (omega arith)

lent_or : {A : Type 0} (new : Option (Bor A)) (old : Bor A) → unwrap_or (option_copied new) old.now ≡ (unwrap_or new old).now
lent_or None old = refl
lent_or (Some x) old = refl

-- the same where it is lent
pub with_items_lent : {A : Type 0} (xs : List A) (ns : List (Option A)) (i : ℕ) (new : Option (Bor A)) (old item : Bor A) → i < length xs
    → option_copied new ≡ slice_index_or ns i None → old.now ≡ slice_index_or xs i old.now → item ≡ unwrap_or new old
    → slice_get (with_items xs ns) i ≡ Some item.now
with_items_lent {A} xs ns i new old item within there is lent =
    let either = ap (λ (n : Option A). unwrap_or n (slice_index_or xs i old.now)) (sym there) ∙ ap (unwrap_or (option_copied new)) (sym is) in
    with_items_at xs ns i old.now within ∙ ap Some (either ∙ lent_or new old ∙ ap (λ (b : Bor A). b.now) (sym lent))
