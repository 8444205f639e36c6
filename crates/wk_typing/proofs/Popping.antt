-- Laws of faults, and of operands in lists.
use Rattle.std.proofs.Common.{◌≡◌, ◌≢◌, ℕ, suc, ◌+◌, ◌-◌, ◌<◌, ◌≤◌, Bool, true, false, if◌then◌else◌, List, [], ◌∷◌, ◌++◌, length, take, get_or, Result, Ok}
use Rattle.std.proofs.Common.{Err, refl, sym, ap, subst, ◌∙◌, arith}
use Rattle.wk_body.specs.declared.types.ValType.{ValType}
use Rattle.wk_typing.specs.declared.fault.FaultKind.{FaultKind}
use Rattle.wk_typing.specs.declared.stop.Stop.{Stop}
use Rattle.wk_bytes.specs.Leb.{◌>>=◌}
use Rattle.wk_typing.proofs.Binds.{bind_assoc}
use Rattle.wk_typing.specs.Slots.{Slot, Known, same, selected}
use Rattle.wk_typing.specs.Own.{Own, popped, popped_any, popped_one, pushed, pushed_one, stopped, is_empty}
use Rattle.wk_body.specs.declared.types.ValType.TheVariants.{I32}
use Rattle.wk_typing.specs.Effects.{same_types, Takes, Selects}
use Rattle.wk_typing.specs.Typing.{after_effect}
use Rattle.wk_typing.specs.Levels.{Blocks, with_top}
use Rattle.wk_typing.specs.Moves.{popped_on, popped_by, pushed_on, unop_on, binop_on, on_top, own_is_spent, Steps}
use Rattle.std.proofs.lemmas.List.{take_more}

pub popped_push : (ts : List ValType) (t : ValType) (s : Own) → popped (ts ++ t ∷ []) s ≡ (popped_one (Known t) s >>= λ p. popped ts (p.1))
popped_push [] t s = refl
popped_push (u ∷ ts) t s =
    ap (λ r. r >>= λ s'. popped_one (Known u) s' >>= λ p. Ok (p.1)) (popped_push ts t s)
    ∙ bind_assoc (popped_one (Known t) s) (λ p. popped ts (p.1)) (λ s'. popped_one (Known u) s' >>= λ p. Ok (p.1))

pub pushed_push : (ts : List ValType) (t : ValType) (s : Own) → pushed (ts ++ t ∷ []) s ≡ pushed_one (Known t) (pushed ts s)
pushed_push [] t s = refl
pushed_push (u ∷ ts) t s = pushed_push ts t (pushed_one (Known u) s)

only_rest : (b c : Bool) → c ≡ false → (if b then c else false) ≡ false
only_rest true c e = e
only_rest false c e = refl

pub same_types_lengths : (ts us : List ValType) → length ts ≢ length us → same_types ts us ≡ false
same_types_lengths [] [] ne = absurd (ne refl)
same_types_lengths [] (u ∷ us) ne = refl
same_types_lengths (t ∷ ts) [] ne = refl
same_types_lengths (t ∷ ts) (u ∷ us) ne = only_rest (same t u) (same_types ts us) (same_types_lengths ts us (λ e. ne (ap suc e)))

on_top_push_at : (ts : List ValType) (b : Blocks) (m : Result (Slot × Own) FaultKind)
    → ((m >>= λ p. popped ts (p.1)) >>= λ s. Ok (with_top s b)) ≡ (popped_by m b >>= λ q. on_top (popped ts) (q.1))
on_top_push_at ts b (Ok p) = refl
on_top_push_at ts b (Err e) = refl

on_top_push : (ts : List ValType) (t : ValType) (b : Blocks)
    → on_top (popped (ts ++ t ∷ [])) b ≡ (popped_on (popped_one (Known t)) b >>= λ q. on_top (popped ts) (q.1))
on_top_push ts t b =
    ap (λ r. r >>= λ s. Ok (with_top s b)) (popped_push ts t b.inner.own) ∙ on_top_push_at ts b (popped_one (Known t) b.inner.own)

-- one turn of popping several operands
pop_turn : (ts : List ValType) (n : ℕ) (t : ValType) (r : Result Blocks FaultKind) (b : Blocks) → n < length ts → t ≡ get_or ts n t
    → r ≡ on_top (popped (take (n + 1) ts)) b → r ≡ (popped_on (popped_one (Known t)) b >>= λ q. on_top (popped (take n ts)) (q.1))
pop_turn ts n t r b lt at e =
    e
    ∙ ap (λ xs. on_top (popped xs) b) (take_more ts n t lt)
    ∙ ap (λ u. on_top (popped (take n ts ++ u ∷ [])) b) (sym at)
    ∙ on_top_push (take n ts) t b

-- the same, from the place that the loop had before
module _ (ts : List ValType) (n : ℕ) (t : ValType) (r : Result Blocks FaultKind) (b : Blocks) (pos : 0 < n) (le : n ≤ length ts)
    (at : t ≡ get_or ts (n - 1) t) (e : r ≡ on_top (popped (take n ts)) b) where
  turn : r ≡ (popped_on (popped_one (Known t)) b >>= λ q. on_top (popped (take (n - 1) ts)) (q.1))
  turn =
      let back : n ≡ n - 1 + 1 = omega arith in
      pop_turn ts (n - 1) t r b (omega arith) at (e ∙ ap (λ k. on_top (popped (take k ts)) b) back)

  pub pop_turn_ok : (x : Slot) (b' : Blocks) → popped_on (popped_one (Known t)) b ≡ Ok (x, b') → r ≡ on_top (popped (take (n - 1) ts)) b'
  pop_turn_ok x b' h = turn ∙ ap (λ m. m >>= λ q. on_top (popped (take (n - 1) ts)) (q.1)) h

  pub pop_turn_err : (k : FaultKind) → popped_on (popped_one (Known t)) b ≡ Err k → r ≡ Err k
  pop_turn_err k h = turn ∙ ap (λ m. m >>= λ q. on_top (popped (take (n - 1) ts)) (q.1)) h

-- ---- a dead stack without operands stays so

popped_spent : (ts : List ValType) → popped ts stopped ≡ Ok stopped
popped_spent [] = refl
popped_spent (t ∷ ts) = ap (λ r. r >>= λ s'. popped_one (Known t) s' >>= λ p. Ok (p.1)) (popped_spent ts)

spent_is : (dead : Bool) (xs : List Slot) → (if dead then is_empty xs else false) ≡ true → record { items = xs; dead = dead } ≡ stopped
spent_is true [] e = refl
spent_is true (x ∷ xs) e = absurd cc
spent_is false xs e = absurd cc

pub spent_pops : (ts : List ValType) (b : Blocks) → own_is_spent b ≡ true → on_top (popped ts) b ≡ Ok b
spent_pops ts b e =
    let is = spent_is b.inner.own.dead b.inner.own.items e in
    ap (λ s. popped ts s >>= λ s. Ok (with_top s b)) is ∙ ap (λ r. r >>= λ s. Ok (with_top s b)) (popped_spent ts) ∙ ap (λ s. Ok (with_top s b)) (sym is)

-- one turn of pushing several operands
pub push_turn : (ts : List ValType) (i : ℕ) (t : ValType) (old b b' : Blocks) → i < length ts → t ≡ get_or ts i t
    → b ≡ with_top (pushed (take i ts) old.inner.own) old → b' ≡ pushed_on (Known t) b → b' ≡ with_top (pushed (take (i + 1) ts) old.inner.own) old
push_turn ts i t old b b' lt at e h =
    h ∙ ap (pushed_on (Known t)) e
    ∙ ap (λ s. with_top s old) (sym (pushed_push (take i ts) t old.inner.own))
    ∙ ap (λ u. with_top (pushed (take i ts ++ u ∷ []) old.inner.own) old) at
    ∙ ap (λ xs. with_top (pushed xs old.inner.own) old) (sym (take_more ts i t lt))

-- an i32, and then the operands
pub indexed_ok : (ts : List ValType) (t : ValType) (b b' : Blocks) (x : Slot) → popped_on (popped_one (Known t)) b ≡ Ok (x, b')
    → on_top (popped (ts ++ t ∷ [])) b ≡ on_top (popped ts) b'
indexed_ok ts t b b' x h = on_top_push ts t b ∙ ap (λ m. m >>= λ q. on_top (popped ts) (q.1)) h

pub indexed_err : (ts : List ValType) (t : ValType) (b : Blocks) (k : FaultKind) → popped_on (popped_one (Known t)) b ≡ Err k
    → on_top (popped (ts ++ t ∷ [])) b ≡ Err k
indexed_err ts t b k h = on_top_push ts t b ∙ ap (λ m. m >>= λ q. on_top (popped ts) (q.1)) h

-- select, pop by pop
select_last : (a : Slot) (b : Blocks) (m : Result (Slot × Own) FaultKind)
    → ((m >>= λ q. Ok (pushed_one (selected a (q.0)) (q.1))) >>= λ s. Ok (with_top s b)) ≡ (popped_by m b >>= λ q. Ok (pushed_on (selected a (q.0)) (q.1)))
select_last a b (Ok q) = refl
select_last a b (Err e) = refl

abbrev after_first : Slot × Blocks → Result Blocks FaultKind
after_first q = popped_on (popped_one (q.0)) (q.1) >>= λ r. Ok (pushed_on (selected (q.0) (r.0)) (r.1))

select_first : (b : Blocks) (m : Result (Slot × Own) FaultKind)
    → ((m >>= λ p. (popped_one (p.0) (p.1) >>= λ q. Ok (pushed_one (selected (p.0) (q.0)) (q.1)))) >>= λ s. Ok (with_top s b)) ≡ (popped_by m b >>= after_first)
select_first b (Ok p) = select_last (p.0) (with_top (p.1) b) (popped_one (p.0) (p.1))
select_first b (Err e) = refl

abbrev after_test : Slot × Blocks → Result Blocks FaultKind
after_test q = popped_on popped_any (q.1) >>= after_first

select_test : (b : Blocks) (m : Result (Slot × Own) FaultKind)
    → (((m >>= λ p. Ok (p.1)) >>= λ s1. (popped_any s1 >>= λ p. (popped_one (p.0) (p.1) >>= λ q. Ok (pushed_one (selected (p.0) (q.0)) (q.1))))) >>=
    λ s. Ok (with_top s b)) ≡ (popped_by m b >>= after_test)
select_test b (Ok p) = select_first (with_top (p.1) b) (popped_any (p.1))
select_test b (Err e) = refl

pub selects : (b b1 b2 b3 : Blocks) (x a y : Slot) → popped_on (popped_one (Known I32)) b ≡ Ok (x, b1) → popped_on popped_any b1 ≡ Ok (a, b2)
    → popped_on (popped_one a) b2 ≡ Ok (y, b3) → on_top (after_effect Selects) b ≡ Ok (pushed_on (selected a y) b3)
selects b b1 b2 b3 x a y h1 h2 h3 =
    select_test b (popped_one (Known I32) b.inner.own)
    ∙ ap (λ m. m >>= after_test) h1
    ∙ ap (λ m. m >>= after_first) h2
    ∙ ap (λ m. m >>= λ r. Ok (pushed_on (selected a (r.0)) (r.1))) h3

-- ---- effects that are done in steps

takes_step : (ts us : List ValType) (b : Blocks) (m : Result Own FaultKind)
    → ((m >>= λ s. Ok (pushed us s)) >>= λ s. Ok (with_top s b)) ≡ ((m >>= λ s. Ok (with_top s b)) >>= λ b1. on_top (after_effect (Takes [] us)) b1)
takes_step ts us b (Ok s) = refl
takes_step ts us b (Err e) = refl

-- operands are popped, and then results pushed
pub takes_then : (ts us : List ValType) (b : Blocks) → on_top (after_effect (Takes ts us)) b
    ≡ (on_top (popped ts) b >>= λ b1. on_top (after_effect (Takes [] us)) b1)
takes_then ts us b = takes_step ts us b (popped ts b.inner.own)

last_step : (t : ValType) (us : List ValType) (b : Blocks) (m : Result Own FaultKind)
    → (((m >>= λ s'. popped_one (Known t) s' >>= λ p. Ok (p.1)) >>= λ s. Ok (pushed us s)) >>= λ s. Ok (with_top s b))
    ≡ ((m >>= λ s. Ok (with_top s b)) >>= λ b1. on_top (after_effect (Takes (t ∷ []) us)) b1)
last_step t us b (Ok s) = refl
last_step t us b (Err e) = refl

-- the last operands are popped first
pub takes_last : (t : ValType) (ts us : List ValType) (b : Blocks)
    → on_top (after_effect (Takes (t ∷ ts) us)) b ≡ (on_top (popped ts) b >>= λ b1. on_top (after_effect (Takes (t ∷ []) us)) b1)
takes_last t ts us b = last_step t us b (popped ts b.inner.own)

unop_at : (u : ValType) (b : Blocks) (m : Result (Slot × Own) FaultKind)
    → (popped_by m b >>= λ p. Ok (pushed_on (Known u) (p.1))) ≡ (((m >>= λ p. Ok (p.1)) >>= λ s. Ok (pushed (u ∷ []) s)) >>= λ s. Ok (with_top s b))
unop_at u b (Ok p) = refl
unop_at u b (Err e) = refl

-- an operand in the place of another is what an effect of one operand and one result does
pub unop_is : (t u : ValType) (b : Blocks) → on_top (after_effect (Takes (t ∷ []) (u ∷ []))) b ≡ unop_on (Known t) (Known u) b
unop_is t u b = sym (unop_at u b (popped_one (Known t) b.inner.own))

binop_at : (t u : ValType) (b : Blocks) (m : Result (Slot × Own) FaultKind)
    → (((m >>= λ p. Ok (p.1)) >>= λ s. Ok (with_top s b)) >>= λ b1. on_top (after_effect (Takes (t ∷ []) (u ∷ []))) b1)
    ≡ (popped_by m b >>= λ p. unop_on (Known t) (Known u) (p.1))
binop_at t u b (Ok p) = unop_is t u (with_top (p.1) b)
binop_at t u b (Err e) = refl

-- and one in the place of two, an effect of two operands
pub binop_is : (t u : ValType) (b : Blocks) → on_top (after_effect (Takes (t ∷ t ∷ []) (u ∷ []))) b ≡ binop_on (Known t) (Known u) b
binop_is t u b = takes_last t (t ∷ []) (u ∷ []) b ∙ binop_at t u b (popped_one (Known t) b.inner.own)

pub steps_then : (whole first : Result Blocks FaultKind) (f : Blocks → Result Blocks FaultKind) (b : Blocks) (r : Result (Unit {0}) Stop) (new : Blocks)
    → whole ≡ (first >>= f) → first ≡ Ok b → Steps (f b) r new → Steps whole r new
steps_then whole first f b r new e h s = subst (λ o. Steps o r new) (sym (e ∙ ap (λ m. m >>= f) h)) s

pub fails_first : (whole first : Result Blocks FaultKind) (f : Blocks → Result Blocks FaultKind) (k : FaultKind) → whole ≡ (first >>= f) → first ≡ Err k
    → whole ≡ Err k
fails_first whole first f k e h = e ∙ ap (λ m. m >>= f) h
