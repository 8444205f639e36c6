-- Types that fit an own stack, the top first.
use Rattle.std.proofs.Common.{◌≡◌, ℕ, Bool, true, false, List, [], ◌∷◌, Result, Ok, Err, refl, sym, ap, ◌∙◌, subst}
use Rattle.wk_bytes.specs.Leb.{◌>>=◌}
use Rattle.wk_bytes.specs.LebLaws.{bind_ok}
use Rattle.wk_body.specs.declared.types.ValType.{ValType}
use Rattle.wk_body.specs.declared.types.ValType.TheVariants.{I32, I64, F32, F64}
use Rattle.wk_typing.specs.declared.fault.FaultKind.{FaultKind}
use Rattle.wk_typing.specs.Slots.{Slot, AnyType, Known, same, fits}
use Rattle.wk_typing.specs.Own.{Own, at_token, top_of, popped, popped_any, checked, popped_one, pushed, pushed_one, fresh, stopped, emptied, is_empty, ended}

-- a stack, the top first, with these types pushed on it in order
abbrev pub stacked : List ValType → List ValType → List ValType
stacked [] u = u
stacked (t ∷ ts) u = stacked ts (t ∷ u)

-- from the top down each type is the stack's or faces any, and more follow only where it is dead
abbrev pub FitIn : Bool → List ValType → List Slot → Type 0
FitIn d (t ∷ p) (x ∷ xs) = (fits (Known t) x ≡ true) × FitIn d p xs
FitIn d [] [] = Unit {0}
FitIn true (t ∷ p) [] = Unit {0}
FitIn false (t ∷ p) [] = ⊥
FitIn d [] (x ∷ xs) = ⊥

abbrev pub Fit : List ValType → Own → Type 0
Fit p s = FitIn s.dead p s.items

pub at_good : {A : Type 0} (k : ℕ) (m : Result A FaultKind) (x : A) → at_token k m ≡ Ok x → m ≡ Ok x
at_good k (Ok y) x e = cc
at_good k (Err f) x e = cc

pub same_good : {A E : Type 0} (x y : A) → ◌≡◌ {A = Result A E} (Ok x) (Ok y) → x ≡ y
same_good x y e = cc

pub any_fits : (p : List ValType) → FitIn true p []
any_fits [] = tt
any_fits (t ∷ p) = tt

pub same_refl : (t : ValType) → same t t ≡ true
same_refl I32 = refl
same_refl I64 = refl
same_refl F32 = refl
same_refl F64 = refl

pub same_is : (t u : ValType) → same t u ≡ true → t ≡ u
same_is I32 I32 e = refl
same_is I64 I64 e = refl
same_is F32 F32 e = refl
same_is F64 F64 e = refl
same_is _ _ e = cc

-- backwards
pub checked_good : (b : Bool) (p q : Slot × Own) → checked b p ≡ Ok q → (b ≡ true) × (p ≡ q)
checked_good true p q e = (refl, same_good p q e)
checked_good false p q e = cc

pub any_back : (d : Bool) (xs : List Slot) (q : Slot × Own) (t : ValType) (u : List ValType) → top_of d xs ≡ Ok q → fits (Known t) (q.0) ≡ true
    → Fit u (q.1) → FitIn d (t ∷ u) xs
any_back d (x ∷ xs) q t u e ft h =
    let p : Slot × Own = (x, record { items = xs; dead = d }) in
    let is : p ≡ q = same_good p q e in
    let P : Slot × Own → Type 0 = λ r. (fits (Known t) (r.0) ≡ true) × Fit u (r.1) in
    subst P (sym is) (ft, h)
any_back true [] q t u e ft h = tt
any_back false [] q t u e ft h = cc

one_back : (s : Own) (q : Slot × Own) (t : ValType) (u : List ValType) → popped_one (Known t) s ≡ Ok q → Fit u (q.1) → Fit (t ∷ u) s
one_back s q t u e h =
    let b = bind_ok (popped_any s) (λ p. checked (fits (Known t) (p.0)) p) q e in
    let c = checked_good (fits (Known t) (b.0.0)) b.0 q b.2 in
    let h' = subst (λ r. Fit u (r.1)) (sym c.1) h in
    any_back s.dead s.items b.0 t u b.1 c.0 h'

pub pops_back : (ts : List ValType) (s s1 : Own) (u : List ValType) → popped ts s ≡ Ok s1 → Fit u s1 → Fit (stacked ts u) s
pops_back [] s s1 u e h = subst (Fit u) (sym (same_good s s1 e)) h
pops_back (t ∷ ts) s s1 u e h =
    let b = bind_ok (popped ts s) (λ s'. popped_one (Known t) s' >>= λ p. Ok (p.1)) s1 e in
    let c = bind_ok (popped_one (Known t) (b.0)) (λ p. Ok (p.1)) s1 b.2 in
    let h' = subst (Fit u) (sym (same_good (c.0.1) s1 c.2)) h in
    pops_back ts s b.0 (t ∷ u) b.1 (one_back b.0 c.0 t u c.1 h')

pub pushes_back : (us : List ValType) (s : Own) (q : List ValType) → Fit q (pushed us s) → (u : List ValType) × (q ≡ stacked us u) × Fit u s
pushes_back [] s q h = (q, refl, h)
pushes_back (t ∷ us) s q h =
    let b = pushes_back us (pushed_one (Known t) s) q h in
    let c = split b.0 b.2 in
    (c.0, b.1 ∙ ap (stacked us) c.1, c.2)
  where
    split : (v : List ValType) → Fit v (pushed_one (Known t) s) → (u : List ValType) × (v ≡ t ∷ u) × Fit u s
    split [] k = absurd k
    split (x ∷ v) k = (v, ap (λ y. y ∷ v) (same_is x t (k.0)), k.1)

pub some_fit : (s : Own) → (p : List ValType) × Fit p s
some_fit s = in_list s.items
  where
    in_list : (xs : List Slot) → (p : List ValType) × FitIn s.dead p xs
    in_list [] = ([], tt)
    in_list (AnyType ∷ xs) = let r = in_list xs in (I32 ∷ r.0, (refl, r.1))
    in_list (Known t ∷ xs) = let r = in_list xs in (t ∷ r.0, (same_refl t, r.1))

empty_good : (xs : List Slot) (d : Bool) → emptied (is_empty xs) ≡ Ok tt → FitIn d [] xs
empty_good [] d e = tt
empty_good (x ∷ xs) d e = cc

pub ends_back : (ts : List ValType) (s : Own) → ended ts s ≡ Ok tt → Fit (stacked ts []) s
ends_back ts s e =
    let b = bind_ok (popped ts s) (λ s'. emptied (is_empty s'.items)) tt e in
    pops_back ts s b.0 [] b.1 (empty_good b.0.items b.0.dead b.2)

pub begins_back : (ps p : List ValType) → Fit p (pushed ps fresh) → p ≡ stacked ps []
begins_back ps p h =
    let b = pushes_back ps fresh p h in
    b.1 ∙ ap (stacked ps) (none b.0 b.2)
  where
    none : (u : List ValType) → Fit u fresh → u ≡ []
    none [] k = refl
    none (x ∷ u) k = absurd k

-- forwards
pub any_on : (d : Bool) (xs : List Slot) (t : ValType) (u : List ValType) → FitIn d (t ∷ u) xs
    → (q : Slot × Own) × (top_of d xs ≡ Ok q) × (fits (Known t) (q.0) ≡ true) × Fit u (q.1)
any_on d (x ∷ xs) t u h = ((x, record { items = xs; dead = d }), refl, h.0, h.1)
any_on true [] t u h = ((AnyType, stopped), refl, refl, any_fits u)
any_on false [] t u h = absurd h

one_on : (s : Own) (t : ValType) (u : List ValType) → Fit (t ∷ u) s → (q : Slot × Own) × (popped_one (Known t) s ≡ Ok q) × Fit u (q.1)
one_on s t u h =
    let a = any_on s.dead s.items t u h in
    (a.0, ap (λ m. m >>= λ p. checked (fits (Known t) (p.0)) p) a.1 ∙ ap (λ b. checked b (a.0)) a.2, a.3)

pub pops_on : (ts : List ValType) (s : Own) (u : List ValType) → Fit (stacked ts u) s → (s1 : Own) × (popped ts s ≡ Ok s1) × Fit u s1
pops_on [] s u h = (s, refl, h)
pops_on (t ∷ ts) s u h =
    let a = pops_on ts s (t ∷ u) h in
    let b = one_on a.0 t u a.2 in
    (b.0.1, ap (λ m. m >>= λ s'. popped_one (Known t) s' >>= λ p. Ok (p.1)) a.1 ∙ ap (λ m. m >>= λ p. Ok (p.1)) b.1, b.2)

pub pushes_on : (us : List ValType) (s : Own) (u : List ValType) → Fit u s → Fit (stacked us u) (pushed us s)
pushes_on [] s u h = h
pushes_on (t ∷ us) s u h = pushes_on us (pushed_one (Known t) s) (t ∷ u) (same_refl t, h)

empty_on : (xs : List Slot) (d : Bool) → FitIn d [] xs → emptied (is_empty xs) ≡ Ok tt
empty_on [] d h = refl
empty_on (x ∷ xs) d h = absurd h

pub ends_on : (ts : List ValType) (s : Own) → Fit (stacked ts []) s → ended ts s ≡ Ok tt
ends_on ts s h =
    let a = pops_on ts s [] h in
    ap (λ m. m >>= λ s'. emptied (is_empty s'.items)) a.1 ∙ empty_on a.0.items a.0.dead a.2
