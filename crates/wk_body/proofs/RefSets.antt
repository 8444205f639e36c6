-- References that are put into a set.
use Rattle.std.proofs.Common.{◌≡◌, ℕ, ◌<◌, Bool, true, false, ◌||◌, List, [], ◌∷◌, ◌++◌, ◌⊎◌, inl, inr, refl, sym, ap, subst, ◌∙◌, append_assoc, lit<}
use Rattle.std.specs.List.{AllByRecursion, flat_map}
use Rattle.std.specs.declared.cmp.Ordering.{Ordering}
use Rattle.std.specs.declared.cmp.Ordering.TheVariants.{Less, Equal, Greater}
use Rattle.std.specs.Ordering.{MatchOrdering, nat_cmp, match_ordering}
use Rattle.std.specs.BTreeSet.{insert_key}
use Rattle.std.specs.Cmp.{ranks}
use Rattle.std.specs.List.Sorted.{IsStrictlySortedBy}
use Rattle.std.proofs.lemmas.List.{append-nil, map-append}
use Rattle.std.proofs.lemmas.List.Concat.{flat_map-append}
use Rattle.std.proofs.lemmas.Map.Keys.{sorted_head, sorted_tail}
use Rattle.wk_body.specs.declared.references.Ref.{Ref}
use Rattle.wk_body.specs.declared.references.Ref.TheVariants.{Ty, Func, Global, Table, Memory}
use Rattle.wk_body.specs.declared.token.Token.{Token}
use Rattle.wk_body.specs.declared.token.Token.TheVariants as kept
use Rattle.wk_body.specs.contracts.references.RefOrd.TheImpl as ord
use Rattle.wk_body.specs.Kept.{told, all_told}
use Rattle.wk_body.specs.References.{tok_refs, IsAmong, IsBelow, AreRising, AreSame, Gains, beside, Collects}
use Rattle.wk_body.specs.Naming.{takes_memory, may_name}

abbrev pub cmp : Ref → Ref → Ordering
cmp a b = (ord.ghosts).cmp a b

-- ---- the order

by_index : (r : Ordering) (make : ℕ → Ref) (n x y : ℕ) → MatchOrdering r (x < y) (x ≡ y) (y < x)
    → MatchOrdering r ((n < n) ⊎ ((n ≡ n) × (x < y))) (make x ≡ make y) ((n < n) ⊎ ((n ≡ n) × (y < x)))
by_index Less make n x y h = inr (refl, h)
by_index Equal make n x y h = ap make h
by_index Greater make n x y h = inr (refl, h)

-- the order of the words is the order that is derived
pub cmp_is : (a b : Ref) → MatchOrdering (cmp a b) (IsBelow a b) (a ≡ b) (IsBelow b a)
cmp_is (Ty x) (Ty y) = by_index (nat_cmp x y) Ty 0 x y (ranks x y)
cmp_is (Func x) (Func y) = by_index (nat_cmp x y) Func 1 x y (ranks x y)
cmp_is (Global x) (Global y) = by_index (nat_cmp x y) Global 2 x y (ranks x y)
cmp_is Table Table = refl
cmp_is Memory Memory = refl
cmp_is a b = inl (lit< tt)

below : (r : Ordering) (A B C : Type 0) → MatchOrdering r A B C → r ≡ Less → A
below Less A B C h e = h
below Equal A B C h e = absurd (cc)
below Greater A B C h e = absurd (cc)

all_below : (x : Ref) (ks : List Ref) → AllByRecursion (λ y. cmp x y ≡ Less) ks → AllByRecursion (IsBelow x) ks
all_below x [] h = tt
all_below x (k ∷ ks) h = (below (cmp x k) (IsBelow x k) (x ≡ k) (IsBelow k x) (cmp_is x k) h.0, all_below x ks h.1)

pub sorted_rises : (ks : List Ref) → IsStrictlySortedBy cmp ks → AreRising ks
sorted_rises [] h = tt
sorted_rises (k ∷ ks) h = (all_below k ks (sorted_head cmp k ks h), sorted_rises ks (sorted_tail cmp k ks h))

-- ---- which references are among others

pub same_self : (xs : List Ref) → AreSame xs xs
same_self xs r = (λ h. h, λ h. h)

pub same_then : (xs ys zs : List Ref) → AreSame xs ys → AreSame ys zs → AreSame xs zs
same_then xs ys zs p q r = (λ h. (q r).0 ((p r).0 h), λ h. (p r).1 ((q r).1 h))

among_left : (r : Ref) (xs ys : List Ref) → IsAmong r xs → IsAmong r (xs ++ ys)
among_left r [] ys h = absurd h
among_left r (x ∷ xs) ys (inl e) = inl e
among_left r (x ∷ xs) ys (inr h) = inr (among_left r xs ys h)

among_right : (r : Ref) (xs ys : List Ref) → IsAmong r ys → IsAmong r (xs ++ ys)
among_right r [] ys h = h
among_right r (x ∷ xs) ys h = inr (among_right r xs ys h)

among_parts : (r : Ref) (xs ys : List Ref) → IsAmong r (xs ++ ys) → IsAmong r xs ⊎ IsAmong r ys
among_parts r [] ys h = inr h
among_parts r (x ∷ xs) ys (inl e) = inl (inl e)
among_parts r (x ∷ xs) ys (inr h) = elim (among_parts r xs ys h) [ inl a ↦ inl (inr a) | inr b ↦ inr b ]

-- the same references in front of others
pub same_front : (xs ys more : List Ref) → AreSame xs ys → AreSame (xs ++ more) (ys ++ more)
same_front xs ys more p r = (
  λ h. elim (among_parts r xs more h) [ inl a ↦ among_left r ys more ((p r).0 a) | inr b ↦ among_right r ys more b ],
  λ h. elim (among_parts r ys more h) [ inl a ↦ among_left r xs more ((p r).1 a) | inr b ↦ among_right r xs more b ],
)

-- ---- a key more

by_place : (k x : Ref) (xs : List Ref) (o : Ordering) → MatchOrdering o (IsBelow k x) (k ≡ x) (IsBelow x k) → AreSame (insert_key cmp xs k) (xs ++ k ∷ [])
    → AreSame (match_ordering o (k ∷ x ∷ xs) (x ∷ xs) (x ∷ insert_key cmp xs k)) (x ∷ (xs ++ k ∷ []))
by_place k x xs Less h p r = (
  λ a. elim a [ inl e ↦ among_right r (x ∷ xs) (k ∷ []) (inl e) | inr b ↦ among_left r (x ∷ xs) (k ∷ []) b ],
  λ a. elim (among_parts r (x ∷ xs) (k ∷ []) a) [ inl b ↦ inr b | inr b ↦ elim b [ inl e ↦ inl e | inr never ↦ absurd never ] ],
)
by_place k x xs Equal h p r = (
  λ a. among_left r (x ∷ xs) (k ∷ []) a,
  λ a. elim (among_parts r (x ∷ xs) (k ∷ []) a) [ inl b ↦ b | inr b ↦ elim b [ inl e ↦ inl (e ∙ h) | inr never ↦ absurd never ] ],
)
by_place k x xs Greater h p r = (λ a. elim a [ inl e ↦ inl e | inr b ↦ inr ((p r).0 b) ], λ a. elim a [ inl e ↦ inl e | inr b ↦ inr ((p r).1 b) ])

pub same_insert : (k : Ref) (ks : List Ref) → AreSame (insert_key cmp ks k) (ks ++ k ∷ [])
same_insert k [] = same_self (k ∷ [])
same_insert k (x ∷ xs) = by_place k x xs (cmp k x) (cmp_is k x) (same_insert k xs)

pub gains_key : (k : Ref) (old new : List Ref) → new ≡ insert_key cmp old k → IsStrictlySortedBy cmp new → Gains old new (k ∷ [])
gains_key k old new e s = record { rising = λ h. sorted_rises new s; same = subst (λ (ks : List Ref). AreSame ks (old ++ k ∷ [])) (sym e) (same_insert k old) }

-- one more, told in front of the others
pub same_more : (k : Ref) (xs old new : List Ref) → AreSame old xs → Gains old new (k ∷ []) → AreSame new (k ∷ xs)
same_more k xs old new p g r =
    let q = same_then new (old ++ k ∷ []) (xs ++ k ∷ []) g.same (same_front old xs (k ∷ []) p) in (
      λ h. elim (among_parts r xs (k ∷ []) ((q r).0 h)) [ inl a ↦ inr a | inr b ↦ elim b [ inl e ↦ inl e | inr never ↦ absurd never ] ],
      λ h. (q r).1 (elim h [ inl e ↦ among_right r xs (k ∷ []) (inl e) | inr a ↦ among_left r xs (k ∷ []) a ]),
    )

pub gains_none : (old new : List Ref) → new ≡ old → Gains old new []
gains_none old new e = record {
  rising = λ h. subst AreRising (sym e) h;
  same =
      subst (λ (ks : List Ref). AreSame new ks) (e ∙ sym (append-nil old)) (same_self new);
}

pub gains_then : (a b c xs ys : List Ref) → Gains a b xs → Gains b c ys → Gains a c (xs ++ ys)
gains_then a b c xs ys p q = record {
  rising = λ h. q.rising (p.rising h);
  same = subst (AreSame c) (append_assoc a xs ys) (same_then c (b ++ ys) ((a ++ xs) ++ ys) q.same (same_front b (a ++ xs) ys p.same));
}

-- ---- the memory beside a set

same_cons : (k : Ref) (xs ys : List Ref) → AreSame xs ys → AreSame (k ∷ xs) (k ∷ ys)
same_cons k xs ys p r = (λ h. elim h [ inl e ↦ inl e | inr a ↦ inr ((p r).0 a) ], λ h. elim h [ inl e ↦ inl e | inr a ↦ inr ((p r).1 a) ])

same_last : (k : Ref) (xs : List Ref) → AreSame (k ∷ xs) (xs ++ k ∷ [])
same_last k xs r = (
  λ h. elim h [ inl e ↦ among_right r xs (k ∷ []) (inl e) | inr a ↦ among_left r xs (k ∷ []) a ],
  λ h. elim (among_parts r xs (k ∷ []) h) [ inl a ↦ inr a | inr b ↦ elim b [ inl e ↦ inl e | inr never ↦ absurd never ] ],
)

same_again : (k : Ref) (xs : List Ref) → AreSame (k ∷ xs) (k ∷ (xs ++ k ∷ []))
same_again k xs r = (
  λ h. elim h [ inl e ↦ inl e | inr a ↦ inr (among_left r xs (k ∷ []) a) ],
  λ h. elim h [ inl e ↦ inl e | inr a ↦ elim (among_parts r xs (k ∷ []) a) [ inl b ↦ inr b | inr b ↦ elim b [ inl e ↦ inl e | inr never ↦ absurd never ] ] ],
)

pub collects_gain : (memory : Bool) (old new more : List Ref) → Gains old new more → Collects old memory new memory more
collects_gain true old new more g = record { rising = g.rising; same = same_cons Memory new (old ++ more) g.same }
collects_gain false old new more g = record { rising = g.rising; same = g.same }

pub collects_none : (memory : Bool) (keys : List Ref) → Collects keys memory keys memory []
collects_none memory keys = collects_gain memory keys keys [] (gains_none keys keys refl)

pub collects_memory : (was : Bool) (keys : List Ref) → Collects keys was keys true (Memory ∷ [])
collects_memory true keys = record { rising = λ h. h; same = same_again Memory keys }
collects_memory false keys = record { rising = λ h. h; same = same_last Memory keys }

-- a token that names nothing
pub collects_unnamed : (t : Token) (was : Bool) (keys : List Ref) → may_name t ≡ false → Collects keys was keys (was || takes_memory t) (tok_refs (told [] t))
collects_unnamed (kept.Block ty skip) was keys h = absurd cc
collects_unnamed (kept.Loop ty skip) was keys h = absurd cc
collects_unnamed (kept.If ty skip) was keys h = absurd cc
collects_unnamed (kept.Call x) was keys h = absurd cc
collects_unnamed (kept.CallIndirect x) was keys h = absurd cc
collects_unnamed (kept.GlobalGet x) was keys h = absurd cc
collects_unnamed (kept.GlobalSet x) was keys h = absurd cc
collects_unnamed (kept.Access op align offset) true keys h = collects_memory true keys
collects_unnamed (kept.Access op align offset) false keys h = collects_memory false keys
collects_unnamed kept.MemorySize true keys h = collects_memory true keys
collects_unnamed kept.MemorySize false keys h = collects_memory false keys
collects_unnamed kept.MemoryGrow true keys h = collects_memory true keys
collects_unnamed kept.MemoryGrow false keys h = collects_memory false keys
collects_unnamed t true keys h = collects_none true keys
collects_unnamed t false keys h = collects_none false keys

-- one that may name something does not use the memory
pub named_takes_none : (t : Token) (was : Bool) → may_name t ≡ true → was || takes_memory t ≡ was
named_takes_none (kept.Access op align offset) was h = absurd cc
named_takes_none kept.MemorySize was h = absurd cc
named_takes_none kept.MemoryGrow was h = absurd cc
named_takes_none t true h = refl
named_takes_none t false h = refl

collects_then : (a b c xs ys : List Ref) (i j k : Bool) → Collects a i b j xs → Collects b j c k ys → Collects a i c k (xs ++ ys)
collects_then a b c xs ys i j k p q = record {
  rising = λ h. q.rising (p.rising h);
  same = subst (AreSame (beside c k)) (append_assoc (beside a i) xs ys)
      (same_then (beside c k) (beside b j ++ ys) ((beside a i ++ xs) ++ ys) q.same (same_front (beside b j) (beside a i ++ xs) ys p.same));
}

pub collects_token : (old new : List Ref) (was is : Bool) (front : List Token) (t : Token)
    → Collects [] false old was (flat_map tok_refs (all_told [] front)) → Collects old was new is (tok_refs (told [] t))
    → Collects [] false new is (flat_map tok_refs (all_told [] (front ++ t ∷ [])))
collects_token old new was is front t p q =
    rw (map-append (told []) front (t ∷ []), flat_map-append tok_refs (all_told [] front) (told [] t ∷ []), append-nil (tok_refs (told [] t)))
    (collects_then [] old new (flat_map tok_refs (all_told [] front)) (tok_refs (told [] t)) false was is p q)

-- the memory is put in at the end
pub gains_memory : (keys new rs : List Ref) → Collects [] false keys true rs → Gains keys new (Memory ∷ []) → Gains [] new rs
gains_memory keys new rs p g = record {
  rising = λ h. g.rising (p.rising h);
  same = same_then new (Memory ∷ keys) rs (same_more Memory keys keys new (same_self keys) g) p.same;
}

pub gains_without : (keys rs : List Ref) → Collects [] false keys false rs → Gains [] keys rs
gains_without keys rs p = record { rising = p.rising; same = p.same }
