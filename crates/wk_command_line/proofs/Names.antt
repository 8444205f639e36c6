-- Names in lists, none of them twice.
use Rattle.std.proofs.Common.{◌≡◌, ◌⊎◌, Bool, true, false, List, [], ◌∷◌, ◌++◌, map, refl, sym, subst, inl, inr}
use Rattle.std.specs.Str.{bytes_eq}
use Rattle.std.proofs.lemmas.Slice.Eq.{bytes_eq-Decides}
use Rattle.clap.specs.Walk.{Row, Text, has_row}
use Rattle.wk_command_line.specs.CommandLine.{IsIn, NoneTwice}

abbrev pub ids : List Row → List Text
ids rows = map (λ r. r.id) rows

pub same_text : (x : Text) → bytes_eq x x ≡ true
same_text x = (bytes_eq-Decides x x).1 refl

pub in-append : (x : Text) (xs ys : List Text) → IsIn x (xs ++ ys) → IsIn x xs ⊎ IsIn x ys
in-append x [] ys h = inr h
in-append x (y ∷ xs) ys (inl e) = inl (inl e)
in-append x (y ∷ xs) ys (inr h) = elim (in-append x xs ys h) [ inl a ↦ inl (inr a) | inr b ↦ inr b ]

pub in-right : (x : Text) (xs ys : List Text) → IsIn x ys → IsIn x (xs ++ ys)
in-right x [] ys h = h
in-right x (y ∷ xs) ys h = inr (in-right x xs ys h)

pub in-left : (x : Text) (xs ys : List Text) → IsIn x xs → IsIn x (xs ++ ys)
in-left x [] ys h = absurd h
in-left x (y ∷ xs) ys (inl e) = inl e
in-left x (y ∷ xs) ys (inr h) = inr (in-left x xs ys h)

pub in_has : (x : Text) (rows : List Row) → has_row x rows ≡ false → IsIn x (ids rows) → ⊥
in_has x [] h i = i
in_has x (r ∷ rows) h i = go (bytes_eq r.id x) refl i (in_has x rows)
  where
    go : (b : Bool) → bytes_eq r.id x ≡ b → IsIn x (ids (r ∷ rows)) → (has_row x rows ≡ false → IsIn x (ids rows) → ⊥) → ⊥
    go true e i rec = let bad : true ≡ false = rw e at h in cc
    go false e (inl same) rec = let bad : bytes_eq r.id x ≡ true = (bytes_eq-Decides r.id x).1 (sym same) in cc
    go false e (inr i) rec = rec (rw e at h) i

-- the first of two names that are one is not there before
pub twice_not_has : (xs : List Row) (r : Row) (ys : List Row) → NoneTwice (ids (xs ++ r ∷ ys)) → has_row r.id xs ≡ false
twice_not_has [] r ys h = refl
twice_not_has (x ∷ xs) r ys h = go (bytes_eq x.id r.id) refl (twice_not_has xs r ys h.1)
  where
    here : (zs : List Row) → IsIn r.id (ids (zs ++ r ∷ ys))
    here [] = inl refl
    here (z ∷ zs) = inr (here zs)

    go : (b : Bool) → bytes_eq x.id r.id ≡ b → has_row r.id xs ≡ false → has_row r.id (x ∷ xs) ≡ false
    go true e rec =
        let same : x.id ≡ r.id = (bytes_eq-Decides x.id r.id).0 e in
        absurd (h.0 (subst (λ i. IsIn i (ids (xs ++ r ∷ ys))) (sym same) (here xs)))
    go false e rec = rw e rec

pub twice_push : (xs : List Row) (r : Row) → NoneTwice (ids xs) → has_row r.id xs ≡ false → NoneTwice (ids (xs ++ r ∷ []))
twice_push [] r h has = ((λ x. x), tt)
twice_push (x ∷ xs) r h has = go (bytes_eq x.id r.id) refl (twice_push xs r h.1)
  where
    apart : (ys : List Row) → (IsIn x.id (ids ys) → ⊥) → bytes_eq x.id r.id ≡ false → IsIn x.id (ids (ys ++ r ∷ [])) → ⊥
    apart [] out e (inl same) = let bad : bytes_eq x.id r.id ≡ true = (bytes_eq-Decides x.id r.id).1 same in cc
    apart [] out e (inr absent) = absent
    apart (y ∷ ys) out e (inl same) = out (inl same)
    apart (y ∷ ys) out e (inr i) = apart ys (λ j. out (inr j)) e i

    go : (b : Bool) → bytes_eq x.id r.id ≡ b → (has_row r.id xs ≡ false → NoneTwice (ids (xs ++ r ∷ []))) → NoneTwice (ids (x ∷ xs ++ r ∷ []))
    go true e rec = let bad : true ≡ false = rw e at has in cc
    go false e rec = (apart xs h.0 e, rec (rw e at has))
