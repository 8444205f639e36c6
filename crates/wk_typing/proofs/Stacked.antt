-- Stacks in the order in which they are written, the top last, that suit an own stack.
use Rattle.std.proofs.Common.{◌≡◌, false, List, [], ◌∷◌, ◌++◌, Ok, refl, sym, ap, ◌∙◌, subst}
use Rattle.std.specs.Prelude.{reverse}
use Rattle.std.proofs.lemmas.List.{append-nil, append_assoc, reverse-append, reverse-reverse}
use Rattle.wk_body.specs.declared.types.ValType.{ValType}
use Rattle.wk_typing.specs.Own.{Own, popped, pushed, fresh, stopped, ended}
use Rattle.wk_typing.proofs.Fits.{stacked, FitIn, Fit, any_fits, some_fit, pops_back, pushes_back, ends_back, pops_on, pushes_on, ends_on}

abbrev pub Suits : List ValType → Own → Type 0
Suits p s = Fit (reverse p) s

pub stacked-reverse : (ts u : List ValType) → stacked ts (reverse u) ≡ reverse (u ++ ts)
stacked-reverse [] u = ap reverse (sym (append-nil u))
stacked-reverse (t ∷ ts) u =
    ap (stacked ts) (sym (reverse-append u (t ∷ []))) ∙ stacked-reverse ts (u ++ t ∷ []) ∙ ap reverse (append_assoc u (t ∷ []) ts)

-- a stack with the top first, as it is written
pub turned : (ts u : List ValType) → stacked ts u ≡ reverse (reverse u ++ ts)
turned ts u = ap (stacked ts) (sym (reverse-reverse u)) ∙ stacked-reverse ts (reverse u)

pub written : (ts u q : List ValType) → reverse q ≡ stacked ts u → q ≡ reverse u ++ ts
written ts u q e = sym (reverse-reverse q) ∙ ap reverse (e ∙ turned ts u) ∙ reverse-reverse (reverse u ++ ts)

-- ---- backwards

pub before_popped : (ts : List ValType) (s s1 : Own) (u : List ValType) → popped ts s ≡ Ok s1 → Suits u s1 → Suits (u ++ ts) s
before_popped ts s s1 u e h = subst (λ r. Fit r s) (stacked-reverse ts u) (pops_back ts s s1 (reverse u) e h)

pub before_pushed : (us : List ValType) (s : Own) (q : List ValType) → Suits q (pushed us s) → (u : List ValType) × (q ≡ u ++ us) × Suits u s
before_pushed us s q h =
    let b = pushes_back us s (reverse q) h in
    (reverse b.0, written us b.0 q b.1, subst (λ r. Fit r s) (sym (reverse-reverse b.0)) b.2)

pub some_suits : (s : Own) → (p : List ValType) × Suits p s
some_suits s =
    let b = some_fit s in
    (reverse b.0, subst (λ r. Fit r s) (sym (reverse-reverse b.0)) b.1)

pub before_end : (ts : List ValType) (s : Own) → ended ts s ≡ Ok tt → Suits ts s
before_end ts s e = subst (λ r. Fit r s) (stacked-reverse ts []) (ends_back ts s e)

none_fits : (u : List ValType) → FitIn false u [] → u ≡ []
none_fits [] k = refl
none_fits (x ∷ u) k = absurd k

pub at_begin : (ps p : List ValType) → Suits p (pushed ps fresh) → p ≡ ps
at_begin ps p h =
    let b = before_pushed ps fresh p h in
    b.1 ∙ ap (λ u. u ++ ps) (sym (reverse-reverse b.0) ∙ ap reverse (none_fits (reverse b.0) b.2))

-- ---- forwards

pub after_popped : (ts : List ValType) (s : Own) (u : List ValType) → Suits (u ++ ts) s → (s1 : Own) × (popped ts s ≡ Ok s1) × Suits u s1
after_popped ts s u h = pops_on ts s (reverse u) (subst (λ r. Fit r s) (sym (stacked-reverse ts u)) h)

pub after_pushed : (us : List ValType) (s : Own) (u : List ValType) → Suits u s → Suits (u ++ us) (pushed us s)
after_pushed us s u h = subst (λ r. Fit r (pushed us s)) (stacked-reverse us u) (pushes_on us s (reverse u) h)

pub all_suit : (p : List ValType) → Suits p stopped
all_suit p = any_fits (reverse p)

pub may_end : (ts : List ValType) (s : Own) → Suits ts s → ended ts s ≡ Ok tt
may_end ts s h = ends_on ts s (subst (λ r. Fit r s) (sym (stacked-reverse ts [])) h)
