-- References that move, as a set.
use Rattle.std.proofs.Common.{◌≡◌, ℕ, List, [], ◌∷◌, ◌++◌, map, inl, inr, refl, sym, ap, subst, append_assoc}
use Rattle.std.proofs.lemmas.List.{map-append}
use Rattle.wk_body.specs.declared.references.Ref.{Ref}
use Rattle.wk_body.specs.declared.references.Ref.TheVariants as refs
use Rattle.wk_body.specs.declared.types.BlockType.{BlockType}
use Rattle.wk_body.specs.declared.types.BlockType.TheVariants.{Index}
use Rattle.wk_body.specs.declared.renumber.Moving.{Moving}
use Rattle.wk_body.specs.declared.renumber.Moving.TheVariants as moving
use Rattle.wk_body.specs.Instructions.{Plain, Call, GlobalGet, GlobalSet}
use Rattle.wk_body.specs.Tree.{Instrs, Finish, One, Block, If}
use Rattle.wk_body.specs.References.{plain_refs, type_refs, refs_of, moved_plain, shift_instrs, IsAmong, AreSame, Gains}
use Rattle.wk_body.specs.Moved.{moved_ref}
use Rattle.wk_body.proofs.RefSets.{same_then, same_front}

-- ---- what moved instructions refer to

plain_moved : (kind : Moving) (from : ℕ) (p : Plain) → plain_refs (moved_plain kind from p) ≡ map (moved_ref kind from) (plain_refs p)
plain_moved moving.Func from (Call x) = refl
plain_moved moving.Global from (GlobalGet x) = refl
plain_moved moving.Global from (GlobalSet x) = refl
plain_moved kind from p = refl

type_moved : (kind : Moving) (from : ℕ) (ty : BlockType) → map (moved_ref kind from) (type_refs ty) ≡ type_refs ty
type_moved moving.Func from (Index x) = refl
type_moved moving.Global from (Index x) = refl
type_moved kind from ty = refl

pub refs_moved : (kind : Moving) (from : ℕ) (t : Instrs) → refs_of (shift_instrs kind from t) ≡ map (moved_ref kind from) (refs_of t)
refs_moved kind from Finish = refl
refs_moved kind from (One p rest) = rw (plain_moved kind from p, refs_moved kind from rest)
    (sym (map-append (moved_ref kind from) (plain_refs p) (refs_of rest)))
refs_moved kind from (Block k ty inside rest) =
    let move = moved_ref kind from in
    rw (
      refs_moved kind from inside,
      refs_moved kind from rest,
      map-append move (type_refs ty) (refs_of inside ++ refs_of rest),
      map-append move (refs_of inside) (refs_of rest),
      type_moved kind from ty,
    ) refl
refs_moved kind from (If ty first second rest) =
    let move = moved_ref kind from in
    rw (
      refs_moved kind from first,
      refs_moved kind from second,
      refs_moved kind from rest,
      map-append move (type_refs ty) (refs_of first ++ (refs_of second ++ refs_of rest)),
      map-append move (refs_of first) (refs_of second ++ refs_of rest),
      map-append move (refs_of second) (refs_of rest),
      type_moved kind from ty,
    ) refl

-- ---- the same references, moved

module _ (f : Ref → Ref) where
  among_moved : (r : Ref) (xs : List Ref) → IsAmong r xs → IsAmong (f r) (map f xs)
  among_moved r [] h = h
  among_moved r (x ∷ xs) (inl e) = inl (ap f e)
  among_moved r (x ∷ xs) (inr h) = inr (among_moved r xs h)

  among_before : (r : Ref) (xs : List Ref) → IsAmong r (map f xs) → (q : Ref) × IsAmong q xs × (r ≡ f q)
  among_before r [] h = absurd h
  among_before r (x ∷ xs) (inl e) = (x, inl refl, e)
  among_before r (x ∷ xs) (inr h) = let b = among_before r xs h in (b.0, inr b.1, b.2)

  moved_within : (xs ys : List Ref) → ((r : Ref) → IsAmong r xs → IsAmong r ys) → (r : Ref) → IsAmong r (map f xs) → IsAmong r (map f ys)
  moved_within xs ys within r h =
      let b = among_before r xs h in
      subst (λ (q : Ref). IsAmong q (map f ys)) (sym b.2) (among_moved b.0 ys (within b.0 b.1))

  pub same_moved : (xs ys : List Ref) → AreSame xs ys → AreSame (map f xs) (map f ys)
  same_moved xs ys same r = (moved_within xs ys (λ q. (same q).0) r, moved_within ys xs (λ q. (same q).1) r)

  -- one more of them is in the set
  pub same_step : (x : Ref) (rest old new all : List Ref) → Gains old new (f x ∷ []) → AreSame (old ++ map f (x ∷ rest)) all → AreSame (new ++ map f rest) all
  same_step x rest old new all g same =
      same_then (new ++ map f rest) ((old ++ f x ∷ []) ++ map f rest) all (same_front new (old ++ f x ∷ []) (map f rest) g.same)
      (subst (λ (ks : List Ref). AreSame ks all) (sym (append_assoc old (f x ∷ []) (map f rest))) same)

-- a type never moves
own_type : (kind : Moving) (from : ℕ) (ty : ℕ) → moved_ref kind from (refs.Ty ty) ≡ refs.Ty ty
own_type moving.Func from ty = refl
own_type moving.Global from ty = refl

-- what a function refers to after the move, by what it refers to before
pub uses_moved : (kind : Moving) (from : ℕ) (ty : ℕ) (t : Instrs) (keys now : List Ref) → AreSame keys (refs.Ty ty ∷ refs_of t)
    → AreSame now (map (moved_ref kind from) keys) → AreSame now (refs.Ty ty ∷ refs_of (shift_instrs kind from t))
uses_moved kind from ty t keys now before same =
    let is : map (moved_ref kind from) (refs.Ty ty ∷ refs_of t) ≡ refs.Ty ty ∷ refs_of (shift_instrs kind from t) =
    rw (own_type kind from ty, refs_moved kind from t) refl in
    same_then now (map (moved_ref kind from) keys) (refs.Ty ty ∷ refs_of (shift_instrs kind from t)) same
    (subst (AreSame (map (moved_ref kind from) keys)) is (same_moved (moved_ref kind from) keys (refs.Ty ty ∷ refs_of t) before))
