-- What is found before and now, and what that says of a body's verdict.
use Rattle.std.proofs.Common.{◌≡◌, ℕ, zero, suc, ◌+◌, ◌<◌, Bool, true, false, not, List, [], ◌∷◌, length, map, get_or, refl, sym, ap, ◌∙◌}
use Rattle.std.proofs.Common.{arith}
use Rattle.std.specs.Prelude.{OnOk, Result, Ok, Err}
use Rattle.std.specs.List.{list_any}
use Rattle.std.proofs.lemmas.Bool.{or_parts}
use Rattle.wk_body.specs.declared.references.Ref.{Ref}
use Rattle.wk_module.specs.declared.types.Func.{Func}
use Rattle.wk_list.specs.UsesLaws.{any_in_order}
use Rattle.wk_typing.specs.Answers.{Found}
use Rattle.wk_typing.specs.Carried.{Agree}
use Rattle.wk_typing.specs.Finds.{AreThere, Grows}
use Rattle.wk_session.specs.Dependents.{same_found, held, differs_in, one_if}
use Rattle.wk_session.specs.Kept.{uses_of}
use Rattle.wk_session.proofs.SameFound.{found_exact, found_same}

-- a test of what a function refers to, by its set
pub any_used : (p : Ref → Bool) (f : Func) (keys : List Ref) → keys ≡ uses_of f → list_any p keys ≡ list_any p (held f)
any_used p f keys e = ap (list_any p) e ∙ any_in_order p (held f)

-- ---- references that find what they found

module _ (A B : Ref → Found) where
  not_differs : (r : Ref) → differs_in A B r ≡ false → B r ≡ A r
  not_differs r h = sym (found_exact (A r) (B r) (flipped (same_found (A r) (B r)) h))
    where
      flipped : (b : Bool) → not b ≡ false → b ≡ true
      flipped true h = refl
      flipped false h = absurd cc

  differs_not : (r : Ref) → B r ≡ A r → differs_in A B r ≡ false
  differs_not r e = ap (λ (w : Found). not (same_found (A r) w)) e ∙ ap not (found_same (A r))

  pub none_agree : (rs : List Ref) → list_any (differs_in A B) rs ≡ false → Agree A B rs
  none_agree [] h = tt
  none_agree (r ∷ rs) h = let p = or_parts (differs_in A B r) (list_any (differs_in A B) rs) h in (not_differs r p.0, none_agree rs p.1)

  pub agree_none : (rs : List Ref) → Agree A B rs → list_any (differs_in A B) rs ≡ false
  agree_none [] h = refl
  agree_none (r ∷ rs) h = rw (differs_not r h.0) (agree_none rs h.1)

  pub there_agree : Grows A B → (rs : List Ref) → AreThere A rs → Agree A B rs
  there_agree grows [] h = tt
  there_agree grows (r ∷ rs) h = (grows r h.0, there_agree grows rs h.1)

-- ---- one more function

-- ---- counts and answers

pub count_none : (n : ℕ) (b : Bool) → b ≡ false → n ≡ n + one_if b
count_none n b h = rw h (omega arith)

pub count_one : (m n : ℕ) (b : Bool) → b ≡ true → m ≡ n + 1 → m ≡ n + one_if b
count_one m n b h e = rw h e

pub on_ok : {A E : Type 0} {P : Type 0} (r : Result A E) → P → OnOk r P
on_ok (Ok x) p = p
on_ok (Err e) p = tt

-- ---- two lists that are the same by what is told of their items

module _ {A B C : Type 0} (f : A → C) (g : B → C) where
  head_is : (x : A) (y : B) (xs : List A) (ys : List B) → map f (x ∷ xs) ≡ map g (y ∷ ys) → f x ≡ g y
  head_is x y xs ys e = cc

  tail_is : (x : A) (y : B) (xs : List A) (ys : List B) → map f (x ∷ xs) ≡ map g (y ∷ ys) → map f xs ≡ map g ys
  tail_is x y xs ys e = cc

  pub told_at : (xs : List A) (ys : List B) (i : ℕ) (x : A) (y : B) → map f xs ≡ map g ys → i < length ys → x ≡ get_or xs i x → y ≡ get_or ys i y → f x ≡ g y
  told_at xs [] i x y e within p q = absurd (omega arith)
  told_at [] (y' ∷ ys) i x y e within p q = absurd cc
  told_at (x' ∷ xs) (y' ∷ ys) zero x y e within p q = ap f p ∙ head_is x' y' xs ys e ∙ ap g (sym q)
  told_at (x' ∷ xs) (y' ∷ ys) (suc i) x y e within p q = told_at xs ys i x y (tail_is x' y' xs ys e) (omega arith) p q
