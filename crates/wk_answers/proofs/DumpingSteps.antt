-- Listings, one behind the other.
use Rattle.std.proofs.Common.{◌≡◌, ℕ, ◌+◌, ◌<◌, true, false, Option, List, ◌++◌, length, get_or, drop, sym, ap, ◌∙◌, inl, inr, append_assoc}
use Rattle.std.proofs.lemmas.Bool.{cases_Bool}
use Rattle.std.proofs.lemmas.List.{at_drop_more}
use Rattle.std.proofs.lemmas.List.Folds.{list_any_at}
use Rattle.std.specs.List.{flat_map, list_any}
use Rattle.std.specs.Io.KnownBytes.{Appends}
use Rattle.wk_bytes.specs.Taken.{TakesFront}
use Rattle.wk_bytes.specs.TakenLaws.{Appends-then}
use Rattle.wk_list.specs.declared.listing.Part.{Part}
use Rattle.wk_list.specs.Listing.{lists_bodies}
use Rattle.wk_list.specs.Taken.{Leaves}

-- the text of the item at an index was taken
pub more_taken : {A : Type 0} (text : A → List ℕ) (items : List A) (i : ℕ) (other : A) (a b c : Option (List ℕ)) (all : List ℕ)
    → i < length items → Leaves a b all (flat_map text (drop i items)) → Appends b c (text (get_or items i other))
    → Leaves a c all (flat_map text (drop (i + 1) items))
more_taken text items i other a b c all within so_far p =
    let x = text (get_or items i other) in
    let later = flat_map text (drop (i + 1) items) in (
      so_far.0 ++ x,
      so_far.1 ∙ ap (λ (r : List ℕ). so_far.0 ++ r) (at_drop_more (flat_map text) items i other within) ∙ sym (append_assoc so_far.0 x later),
      Appends-then a b c so_far.0 x so_far.2 p,
    )

-- some of it was
pub some_taken : {A : Type 0} (text : A → List ℕ) (items : List A) (i : ℕ) (other : A) (a b c : Option (List ℕ)) (all : List ℕ)
    → i < length items → Leaves a b all (flat_map text (drop i items)) → TakesFront b c (text (get_or items i other)) → TakesFront a c all
some_taken text items i other a b c all within so_far p =
    let later = flat_map text (drop (i + 1) items) in (
      so_far.0 ++ p.0,
      p.1 ++ later,
      so_far.1 ∙ ap (λ (r : List ℕ). so_far.0 ++ r)
          (at_drop_more (flat_map text) items i other within ∙ ap (λ (r : List ℕ). r ++ later) p.2 ∙ append_assoc p.0 p.1 later)
          ∙ sym (append_assoc so_far.0 p.0 (p.1 ++ later)),
      Appends-then a b c so_far.0 p.0 so_far.2 p.3,
    )

-- each part tells nothing of bodies where none of them does
pub no_bodies : (parts : List Part) (i : ℕ) (other : Part) → i < length parts → list_any lists_bodies parts ≡ false
    → lists_bodies (get_or parts i other) ≡ false
no_bodies parts i other within none =
    elim (cases_Bool (lists_bodies (get_or parts i other))) [
      | inl t ↦ absurd (let some : true ≡ false = sym (list_any_at lists_bodies parts i other within t) ∙ none in cc)
      | inr f ↦ f
    ]
