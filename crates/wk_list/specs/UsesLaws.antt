-- References in order: they rise, they are the same references, and no other list is so.
use Rattle.std.specs.Prelude.{◌↔◌, ◌⊎◌, ◌||◌}
use Rattle.std.proofs.Common.{◌≡◌, ℕ, ◌<◌, Bool, true, false, inl, inr, List, [], ◌∷◌, refl, sym, ap, subst, ◌∙◌, arith}
use Rattle.std.specs.List.{AllByRecursion, list_any}
use Rattle.std.proofs.lemmas.Bool.{cases_lt}
use Rattle.std.proofs.lemmas.Bool.Decides.{nat_tests}
use Rattle.wk_body.specs.declared.references.Ref.{Ref}
use Rattle.wk_body.specs.declared.references.Ref.TheVariants.{Ty, Func, Global, Table, Memory}
use Rattle.wk_body.specs.References.{rank, index, IsAmong, IsBelow, AreRising, AreSame}
use Rattle.wk_list.specs.Uses.{is_before, is_same, placed_in, in_order}

-- ---- which of two references comes first

-- a reference is its kind and its index
same_ref : (a b : Ref) → rank a ≡ rank b → index a ≡ index b → a ≡ b
same_ref (Ty x) (Ty y) p q = ap Ty q
same_ref (Func x) (Func y) p q = ap Func q
same_ref (Global x) (Global y) p q = ap Global q
same_ref Table Table p q = refl
same_ref Memory Memory p q = refl
same_ref a b p q = absurd (omega arith)

below_then : (a b c : Ref) → IsBelow a b → IsBelow b c → IsBelow a c
below_then a b c (inl p) (inl q) = inl (omega arith)
below_then a b c (inl p) (inr q) = inl (omega arith)
below_then a b c (inr p) (inl q) = inl (omega arith)
below_then a b c (inr p) (inr q) = inr (p.0 ∙ q.0, omega arith)

never_below_self : (a : Ref) → IsBelow a a → ⊥
never_below_self a (inl p) = omega arith
never_below_self a (inr p) = omega arith

three_ways : (m n : ℕ) → (m < n) ⊎ ((m ≡ n) ⊎ (n < m))
three_ways m n = elim (cases_lt m n) [ inl p ↦ inl p | inr p ↦ elim (cases_lt n m) [ inl q ↦ inr (inr q) | inr q ↦ inr (inl (omega arith)) ] ]

before_yes : (a b : Ref) → IsBelow a b → is_before a b ≡ true
before_yes a b (inl p) = grind (arith, nat_tests)
before_yes a b (inr p) = grind (arith, nat_tests)

before_no : (a b : Ref) → IsBelow b a → is_before a b ≡ false
before_no a b (inl p) = grind (arith, nat_tests)
before_no a b (inr p) = grind (arith, nat_tests)

same_no : (a b : Ref) → IsBelow b a → is_same a b ≡ false
same_no a b (inl p) = grind (arith, nat_tests)
same_no a b (inr p) = grind (arith, nat_tests)

self_not_before : (a : Ref) → is_before a a ≡ false
self_not_before a = grind (arith, nat_tests)

self_same : (a : Ref) → is_same a a ≡ true
self_same a = grind (arith, nat_tests)

-- where a reference goes: in front, nowhere, or behind
abbrev Place : Ref → Ref → List Ref → Type 0
Place r x xs = (IsBelow r x × (placed_in r (x ∷ xs) ≡ r ∷ x ∷ xs))
    ⊎ (((r ≡ x) × (placed_in r (x ∷ xs) ≡ x ∷ xs)) ⊎ (IsBelow x r × (placed_in r (x ∷ xs) ≡ x ∷ placed_in r xs)))

goes_front : (r x : Ref) (xs : List Ref) → IsBelow r x → Place r x xs
goes_front r x xs p = inl (p, rw (before_yes r x p) refl)

goes_nowhere : (r x : Ref) (xs : List Ref) → r ≡ x → Place r x xs
goes_nowhere r x xs e = inr (inl (e, subst (λ (y : Ref). placed_in r (y ∷ xs) ≡ y ∷ xs) e (rw (self_not_before r, self_same r) refl)))

goes_behind : (r x : Ref) (xs : List Ref) → IsBelow x r → Place r x xs
goes_behind r x xs p = inr (inr (p, rw (before_no r x p, same_no r x p) refl))

in_its_place : (r x : Ref) (xs : List Ref) → Place r x xs
in_its_place r x xs =
    elim (three_ways (rank r) (rank x)) [
      | inl p ↦ goes_front r x xs (inl p)
      | inr other ↦ elim other [
        | inl e ↦ elim (three_ways (index r) (index x)) [
          | inl p ↦ goes_front r x xs (inr (e, p))
          | inr more ↦ elim more [ inl d ↦ goes_nowhere r x xs (same_ref r x e d) | inr p ↦ goes_behind r x xs (inr (sym e, p)) ]
        ]
        | inr p ↦ goes_behind r x xs (inl p)
      ]
    ]

all_at : (P : Ref → Type 0) (r : Ref) (xs : List Ref) → AllByRecursion P xs → IsAmong r xs → P r
all_at P r [] h a = absurd a
all_at P r (x ∷ xs) h (inl e) = subst P (sym e) h.0
all_at P r (x ∷ xs) h (inr a) = all_at P r xs h.1 a

all_before : (r x : Ref) (xs : List Ref) → IsBelow r x → AllByRecursion (IsBelow x) xs → AllByRecursion (IsBelow r) xs
all_before r x [] p h = tt
all_before r x (y ∷ ys) p h = (below_then r x y p h.0, all_before r x ys p h.1)

-- ---- each list rises once it is in order

all_placed : (P : Ref → Type 0) (r : Ref) (xs : List Ref) → P r → AllByRecursion P xs → AllByRecursion P (placed_in r xs)
all_placed P r [] p h = (p, tt)
all_placed P r (x ∷ xs) p h =
    elim (in_its_place r x xs) [
      | inl front ↦ subst (AllByRecursion P) (sym front.1) (p, h)
      | inr other ↦ elim other [
        | inl same ↦ subst (AllByRecursion P) (sym same.1) h
        | inr behind ↦ subst (AllByRecursion P) (sym behind.1) (h.0, all_placed P r xs p h.1)
      ]
    ]

placed_rises : (r : Ref) (xs : List Ref) → AreRising xs → AreRising (placed_in r xs)
placed_rises r [] h = (tt, tt)
placed_rises r (x ∷ xs) h =
    elim (in_its_place r x xs) [
      | inl front ↦ subst AreRising (sym front.1) ((front.0, all_before r x xs front.0 h.0), h)
      | inr other ↦ elim other [
        | inl same ↦ subst AreRising (sym same.1) h
        | inr behind ↦ subst AreRising (sym behind.1) (all_placed (IsBelow x) r xs behind.0 h.0, placed_rises r xs h.1)
      ]
    ]

pub in_order_rises : (xs : List Ref) → AreRising (in_order xs)
in_order_rises [] = tt
in_order_rises (x ∷ xs) = placed_rises x (in_order xs) (in_order_rises xs)

-- ---- the same references are among it

same_placed : (r : Ref) (xs : List Ref) → AreSame (placed_in r xs) (r ∷ xs)
same_placed r [] q = (λ h. h, λ h. h)
same_placed r (x ∷ xs) q =
    elim (in_its_place r x xs) [
      | inl front ↦ subst (λ (ks : List Ref). IsAmong q ks ↔ IsAmong q (r ∷ x ∷ xs)) (sym front.1) (λ h. h, λ h. h)
      | inr other ↦ elim other [
        | inl same ↦ subst (λ (ks : List Ref). IsAmong q ks ↔ IsAmong q (r ∷ x ∷ xs)) (sym same.1)
            (λ h. inr h, λ h. elim h [ inl e ↦ inl (e ∙ same.0) | inr a ↦ a ])
        | inr behind ↦ subst (λ (ks : List Ref). IsAmong q ks ↔ IsAmong q (r ∷ x ∷ xs)) (sym behind.1) (
          λ h. elim h [ inl e ↦ inr (inl e) | inr a ↦ elim ((same_placed r xs q).0 a) [ inl e ↦ inl e | inr b ↦ inr (inr b) ] ],
          λ h. elim h [ inl e ↦ inr ((same_placed r xs q).1 (inl e)) | inr a ↦ elim a [ inl e ↦ inl e | inr b ↦ inr ((same_placed r xs q).1 (inr b)) ] ],
        )
      ]
    ]

pub in_order_same : (xs : List Ref) → AreSame (in_order xs) xs
in_order_same [] q = (λ h. h, λ h. h)
in_order_same (x ∷ xs) q = (
  λ h. elim ((same_placed x (in_order xs) q).0 h) [ inl e ↦ inl e | inr a ↦ inr ((in_order_same xs q).0 a) ],
  λ h. (same_placed x (in_order xs) q).1 (elim h [ inl e ↦ inl e | inr a ↦ inr ((in_order_same xs q).1 a) ]),
)

-- ---- no other list rises and has the same references

one_first : (k l : Ref) (ks ls : List Ref) → AreRising (k ∷ ks) → AreRising (l ∷ ls) → AreSame (k ∷ ks) (l ∷ ls) → k ≡ l
one_first k l ks ls p q s =
    elim ((s k).0 (inl refl)) [
      | inl e ↦ e
      | inr a ↦ elim ((s l).1 (inl refl)) [
        | inl e ↦ sym e
        | inr b ↦ absurd (never_below_self k (below_then k l k (all_at (IsBelow k) l ks p.0 b) (all_at (IsBelow l) k ls q.0 a)))
      ]
    ]

among_others : (k r : Ref) (ks ls : List Ref) → AllByRecursion (IsBelow k) ks → (IsAmong r (k ∷ ks) → IsAmong r (k ∷ ls)) → IsAmong r ks → IsAmong r ls
among_others k r ks ls p f a = elim (f (inr a)) [ inl e ↦ absurd (never_below_self k (subst (IsBelow k) e (all_at (IsBelow k) r ks p a))) | inr b ↦ b ]

one_order : (ks ls : List Ref) → AreRising ks → AreRising ls → AreSame ks ls → ks ≡ ls
one_order [] [] p q s = refl
one_order [] (l ∷ ls) p q s = absurd ((s l).1 (inl refl))
one_order (k ∷ ks) [] p q s = absurd ((s k).0 (inl refl))
one_order (k ∷ ks) (l ∷ ls) p q s =
    let e : k ≡ l = one_first k l ks ls p q s in
    let s2 : AreSame (k ∷ ks) (k ∷ ls) = subst (λ (x : Ref). AreSame (k ∷ ks) (x ∷ ls)) (sym e) s in
    let q2 : AllByRecursion (IsBelow k) ls = subst (λ (x : Ref). AllByRecursion (IsBelow x) ls) (sym e) q.0 in
    ap (λ (x : Ref). x ∷ ks) e ∙ ap (λ (xs : List Ref). l ∷ xs)
    (one_order ks ls p.1 q.1 (λ r. (among_others k r ks ls p.0 (s2 r).0, among_others k r ls ks q2 (s2 r).1)))

pub in_order_is : (ks xs : List Ref) → AreRising ks → AreSame ks xs → ks ≡ in_order xs
in_order_is ks xs p s = one_order ks (in_order xs) p (in_order_rises xs)
    (λ r. (λ a. (in_order_same xs r).1 ((s r).0 a), λ a. (s r).1 ((in_order_same xs r).0 a)))

-- ---- a question of any reference has the same answer of it

or_twice : (a b : Bool) → (a || b) ≡ (a || (a || b))
or_twice true b = refl
or_twice false b = refl

or_turn : (a b c : Bool) → (a || (b || c)) ≡ (b || (a || c))
or_turn true true c = refl
or_turn true false c = refl
or_turn false b c = refl

any_placed : (p : Ref → Bool) (r : Ref) (xs : List Ref) → list_any p (placed_in r xs) ≡ (p r || list_any p xs)
any_placed p r [] = refl
any_placed p r (x ∷ xs) =
    elim (in_its_place r x xs) [
      | inl front ↦ ap (list_any p) front.1
      | inr other ↦ elim other [
        | inl same ↦ ap (list_any p) same.1 ∙ or_twice (p x) (list_any p xs) ∙ ap (λ (y : Ref). p y || (p x || list_any p xs)) (sym same.0)
        | inr behind ↦ ap (list_any p) behind.1 ∙ ap (λ (b : Bool). p x || b) (any_placed p r xs) ∙ or_turn (p x) (p r) (list_any p xs)
      ]
    ]

pub any_in_order : (p : Ref → Bool) (xs : List Ref) → list_any p (in_order xs) ≡ list_any p xs
any_in_order p [] = refl
any_in_order p (x ∷ xs) = any_placed p x (in_order xs) ∙ ap (λ (b : Bool). p x || b) (any_in_order p xs)
