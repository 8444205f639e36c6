-- What is typed is derived, and what is derived is typed.
use Rattle.std.proofs.Common.{◌≡◌, ℕ, ◌+◌, Bool, true, false, List, [], ◌∷◌, ◌++◌, Result, Ok, Err, Option, refl, sym, ap, ◌∙◌, subst}
use Rattle.std.specs.Prelude.{reverse}
use Rattle.std.proofs.lemmas.List.{append-nil, append_assoc}
use Rattle.wk_bytes.specs.Leb.{◌>>=◌}
use Rattle.wk_bytes.specs.LebLaws.{bind_ok}
use Rattle.wk_body.specs.declared.types.ValType.{ValType}
use Rattle.wk_body.specs.declared.types.ValType.TheVariants.{I32}
use Rattle.wk_body.specs.declared.types.BlockType.{BlockType}
use Rattle.wk_body.specs.declared.types.BlockType.TheVariants.{Index}
use Rattle.wk_body.specs.declared.types.BlockKind.{BlockKind}
use Rattle.wk_body.specs.declared.types.BlockKind.TheVariants as kinds
use Rattle.wk_body.specs.declared.references.Ref.{Ref}
use Rattle.wk_body.specs.Bodies.{BodyOf}
use Rattle.wk_body.specs.Instructions.{Plain}
use Rattle.wk_body.specs.Tree.{Instrs, Finish, One, Block, If}
use Rattle.wk_typing.specs.declared.fault.FaultKind.{FaultKind}
use Rattle.wk_typing.specs.declared.fault.BodyVerdict.{BodyVerdict}
use Rattle.wk_typing.specs.declared.fault.BodyVerdict.TheVariants.{Valid}
use Rattle.wk_typing.specs.Answers.{Found}
use Rattle.wk_typing.specs.Slots.{Slot, AnyType, Known, fits, selected}
use Rattle.wk_typing.specs.Own.{Own, TokenFault, at_token, popped, popped_any, checked, popped_one, pushed, pushed_one, fresh, stopped, ended}
use Rattle.wk_typing.specs.Effects.{Effect, Takes, Stops, Drops, Selects, effect_of, known, params_of, results_of, local_type}
use Rattle.wk_typing.specs.Typing.{after_effect, is_finish, else_count, count, with_index, entered, begun, label_types, typed, code_result, body_result}
use Rattle.wk_typing.specs.Typing.{verdict_of, body_verdict}
use Rattle.wk_typing.specs.Derives.{HasType, label_of, Derives, IsDerived}
use Rattle.wk_typing.proofs.Fits.{Fit, at_good, same_good, same_is, same_refl, checked_good, any_back, pops_back, any_on, pops_on}
use Rattle.wk_typing.proofs.Stacked.{Suits, stacked-reverse, turned, written, before_popped, before_pushed, some_suits, before_end, at_begin, after_popped}
use Rattle.wk_typing.proofs.Stacked.{after_pushed, all_suit, may_end}

some_type : (x : Slot) → (t : ValType) × (fits (Known t) x ≡ true)
some_type AnyType = (I32, refl)
some_type (Known t) = (t, same_refl t)

choice_back : (a b : Slot) (t : ValType) → fits a b ≡ true → fits (Known t) (selected a b) ≡ true → (fits (Known t) a ≡ true) × (fits (Known t) b ≡ true)
choice_back AnyType b t e h = (refl, h)
choice_back (Known v) b t e h = (h, subst (λ x. fits (Known x) b ≡ true) (sym (same_is t v h)) e)

choice_on : (a b : Slot) (t : ValType) → fits (Known t) a ≡ true → fits (Known t) b ≡ true → (fits a b ≡ true) × (fits (Known t) (selected a b) ≡ true)
choice_on AnyType b t ha hb = (refl, hb)
choice_on (Known v) b t ha hb = (subst (λ x. fits (Known x) b ≡ true) (same_is t v ha) hb, ha)

-- ---- one instruction, backwards

-- what select takes of the stack, the top first, where this is what it leaves
chosen : (a : Slot) (s s1 s2 : Own) (r : Slot × Own) → popped (I32 ∷ []) s ≡ Ok s1 → popped_any s1 ≡ Ok (a, s2) → popped_any s2 ≡ Ok r
    → fits a r.0 ≡ true → (q : List ValType) → Fit q (pushed_one (selected a r.0) r.1)
    → (t : ValType) × (u : List ValType) × (q ≡ t ∷ u) × Fit (I32 ∷ (t ∷ (t ∷ u))) s
chosen a s s1 s2 r e0 e1 e2 ft [] k = absurd k
chosen a s s1 s2 r e0 e1 e2 ft (t ∷ u) k =
    let both = choice_back a r.0 t ft k.0 in
    let h2 = any_back s2.dead s2.items r t u e2 both.1 k.1 in
    let h1 = any_back s1.dead s1.items (a, s2) t (t ∷ u) e1 both.0 h2 in
    (t, u, refl, pops_back (I32 ∷ []) s s1 (t ∷ (t ∷ u)) e0 h1)

select_back : (s s' : Own) → after_effect Selects s ≡ Ok s' → (q : List ValType) → Fit q s'
    → (t : ValType) × (u : List ValType) × (q ≡ t ∷ u) × Fit (I32 ∷ (t ∷ (t ∷ u))) s
select_back s s' e q h =
    let b = bind_ok (popped (I32 ∷ []) s) _ s' e in
    let c = bind_ok (popped_any b.0) _ s' b.2 in
    let d = bind_ok (popped_one c.0.0 c.0.1) _ s' c.2 in
    let f = bind_ok (popped_any c.0.1) _ d.0 d.1 in
    let g = checked_good (fits c.0.0 f.0.0) f.0 d.0 f.2 in
    let end : pushed_one (selected c.0.0 d.0.0) d.0.1 ≡ s' = same_good _ s' d.2 in
    chosen c.0.0 s b.0 c.0.1 d.0 b.1 c.1 (f.1 ∙ ap Ok g.1) (subst (λ r. fits c.0.0 r.0 ≡ true) g.1 g.0) q (subst (Fit q) (sym end) h)

-- an instruction took a stack to this one: the types that it has there, and what is below
record Came (e : Effect) (s : Own) (q : List ValType) : Type 0 where
  below : List ValType
  operands : List ValType
  results : List ValType
  has : HasType e operands results
  left : q ≡ below ++ results
  suits : Suits (below ++ operands) s

effect_back : (e : Effect) (s s' : Own) → after_effect e s ≡ Ok s' → (q : List ValType) → Suits q s' → Came e s q
effect_back (Takes ts us) s s' e q h =
    let b = bind_ok (popped ts s) (λ r. Ok (pushed us r)) s' e in
    let c = before_pushed us b.0 q (subst (Suits q) (sym (same_good (pushed us b.0) s' b.2)) h) in
    record { below = c.0; operands = ts; results = us; has = (refl, refl); left = c.1; suits = before_popped ts s b.0 c.0 b.1 c.2 }
effect_back (Stops ts) s s' e q h =
    let b = bind_ok (popped ts s) (λ r. Ok stopped) s' e in
    let w = some_suits b.0 in
    record { below = []; operands = w.0 ++ ts; results = q; has = (w.0, refl); left = refl; suits = before_popped ts s b.0 w.0 b.1 w.1 }
effect_back Drops s s' e q h =
    let b = bind_ok (popped_any s) (λ p. Ok p.1) s' e in
    let t = some_type b.0.0 in
    let fit = any_back s.dead s.items b.0 t.0 (reverse q) b.1 t.1 (subst (Suits q) (sym (same_good b.0.1 s' b.2)) h) in
    record {
      below = q;
      operands = t.0 ∷ [];
      results = [];
      has = (t.0, refl, refl);
      left = sym (append-nil q);
      suits =
          subst (λ r. Fit r s) (stacked-reverse (t.0 ∷ []) q) fit;
    }
effect_back Selects s s' e q h =
    let b = select_back s s' e (reverse q) h in
    let operands = b.0 ∷ b.0 ∷ I32 ∷ [] in
    record {
      below = reverse b.1;
      operands = operands;
      results = b.0 ∷ [];
      has = (b.0, refl, refl);
      left = written (b.0 ∷ []) b.1 q b.2;
      suits =
          subst (λ r. Fit r s) (turned operands b.1) b.3;
    }

-- ---- one instruction, forwards

select_on : (s : Own) (t : ValType) (u : List ValType) → Fit (I32 ∷ (t ∷ (t ∷ u))) s → (s' : Own) × (after_effect Selects s ≡ Ok s') × Fit (t ∷ u) s'
select_on s t u h =
    let b = pops_on (I32 ∷ []) s (t ∷ (t ∷ u)) h in
    let c = any_on b.0.dead b.0.items t (t ∷ u) b.2 in
    let d = any_on c.0.1.dead c.0.1.items t u c.3 in
    let both = choice_on c.0.0 d.0.0 t c.2 d.2 in
    let one : popped_one c.0.0 c.0.1 ≡ Ok d.0 = ap (λ m. m >>= λ r. checked (fits c.0.0 r.0) r) d.1 ∙ ap (λ i. checked i d.0) both.0 in
    let new = pushed_one (selected c.0.0 d.0.0) d.0.1 in
    let last : Slot × Own → Result Own FaultKind = λ r. (popped_one r.0 r.1 >>= λ z. Ok (pushed_one (selected r.0 z.0) z.1)) in
    let after_test : Own → Result Own FaultKind = λ s1. (popped_any s1 >>= last) in (
      new,
      ap (λ m. m >>= after_test) b.1 ∙ ap (λ m. m >>= last) c.1 ∙ ap (λ m. m >>= λ z. Ok (pushed_one (selected c.0.0 z.0) z.1)) one,
      (both.1, d.3),
    )

effect_on : (e : Effect) (s : Own) (below operands results : List ValType) → HasType e operands results → Suits (below ++ operands) s
    → (s' : Own) × (after_effect e s ≡ Ok s') × Suits (below ++ results) s'
effect_on (Takes ts us) s below operands results a h =
    let b = after_popped ts s below (subst (λ r. Suits (below ++ r) s) a.0 h) in
    (pushed us b.0, ap (λ m. m >>= λ r. Ok (pushed us r)) b.1, subst (λ r. Suits (below ++ r) (pushed us b.0)) (sym a.1) (after_pushed us b.0 below b.2))
effect_on (Stops ts) s below operands results a h =
    let b = after_popped ts s (below ++ a.0) (subst (λ r. Suits r s) (ap (λ r. below ++ r) a.1 ∙ sym (append_assoc below a.0 ts)) h) in
    (stopped, ap (λ m. m >>= λ r. Ok stopped) b.1, all_suit (below ++ results))
effect_on Drops s below operands results a h =
    let fit = subst (λ r. Fit r s) (ap (λ r. reverse (below ++ r)) a.1 ∙ sym (stacked-reverse (a.0 ∷ []) below)) h in
    let b = any_on s.dead s.items a.0 (reverse below) fit in
    (b.0.1, ap (λ m. m >>= λ r. Ok r.1) b.1, subst (λ r. Suits r b.0.1) (sym (append-nil below) ∙ ap (λ r. below ++ r) (sym a.2)) b.3)
effect_on Selects s below operands results a h =
    let fit = subst (λ r. Fit r s) (ap (λ r. reverse (below ++ r)) a.1 ∙ sym (stacked-reverse (a.0 ∷ a.0 ∷ I32 ∷ []) below)) h in
    let b = select_on s a.0 (reverse below) fit in
    (b.0, b.1, subst (λ r. Fit r b.0) (stacked-reverse (a.0 ∷ []) below ∙ ap (λ r. reverse (below ++ r)) (sym a.2)) b.2)

same_label : (A : Ref → Found) (kind : BlockKind) (bt : BlockType) → label_types A kind bt ≡ label_of A kind bt
same_label A kinds.Block bt = refl
same_label A kinds.Loop bt = refl

module _ (A : Ref → Found) (locals : ℕ → Option ValType) (final : List ValType) where
  -- ---- the parts of a block's typing

  -- the end of a block, and what comes behind it
  abbrev closing : List (List ValType) → ℕ → BlockType → Instrs → Own → Own → Result Own TokenFault
  closing labels kb bt rest s1 s2 =
      at_token kb (ended (results_of A bt) s2) >>= λ u. typed A locals final labels (kb + 1) rest (pushed (results_of A bt) s1)

  -- the last code in a block, behind which it ends
  abbrev within : List (List ValType) → List ValType → ℕ → BlockType → Instrs → Instrs → Own → Result Own TokenFault
  within labels label k bt inside rest s1 =
      typed A locals final (label ∷ labels) k inside (begun A bt) >>= closing labels (k + count inside) bt rest s1

  -- the end of a then branch, and the else branch
  abbrev halving : List (List ValType) → ℕ → ℕ → BlockType → Instrs → Instrs → Own → Own → Result Own TokenFault
  halving labels ka kb bt second rest s1 s2 =
      at_token ka (ended (results_of A bt) s2) >>= λ u. within labels (results_of A bt) kb bt second rest s1

  -- both branches of an if
  abbrev both : List (List ValType) → ℕ → BlockType → Instrs → Instrs → Instrs → Own → Result Own TokenFault
  both labels k bt first second rest s1 =
      typed A locals final (results_of A bt ∷ labels) k first (begun A bt) >>= halving labels (k + count first)
      (k + count first + else_count (is_finish second)) bt second rest s1

  -- ---- backwards

  from_one : (labels : List (List ValType)) (i : Plain) (rest : Instrs) (e : Effect) (s : Own) (q mid : List ValType) (came : Came e s mid)
      → effect_of A locals final labels i ≡ Ok e → Derives A locals final labels rest mid q
      → Derives A locals final labels (One i rest) (came.below ++ came.operands) q
  from_one labels i rest e s q mid came ok behind =
      (came.below, came.operands, came.results, e, ok, came.has, refl, subst (λ p. Derives A locals final labels rest p q) came.left behind)

  from_block : (labels : List (List ValType)) (kind : BlockKind) (bt : BlockType) (inside rest : Instrs) (q u : List ValType) → known A bt ≡ Ok tt
      → Derives A locals final (label_types A kind bt ∷ labels) inside (params_of A bt) (results_of A bt)
      → Derives A locals final labels rest (u ++ results_of A bt) q → Derives A locals final labels (Block kind bt inside rest) (u ++ params_of A bt) q
  from_block labels kind bt inside rest q u ok h behind =
      (u, ok, subst (λ l. Derives A locals final (l ∷ labels) inside (params_of A bt) (results_of A bt)) (same_label A kind bt) h, refl, behind)

  from_if : (labels : List (List ValType)) (bt : BlockType) (first second rest : Instrs) (q u : List ValType) → known A bt ≡ Ok tt
      → Derives A locals final (results_of A bt ∷ labels) first (params_of A bt) (results_of A bt)
      → Derives A locals final (results_of A bt ∷ labels) second (params_of A bt) (results_of A bt)
      → Derives A locals final labels rest (u ++ results_of A bt) q
      → Derives A locals final labels (If bt first second rest) (u ++ (params_of A bt ++ I32 ∷ [])) q
  from_if labels bt first second rest q u ok h1 h2 behind = (u, ok, h1, h2, refl, behind)

  abbrev Sound : Instrs → Type 0
  Sound is = (labels : List (List ValType)) (k : ℕ) (s s' : Own) → typed A locals final labels k is s ≡ Ok s' → (q : List ValType) → Suits q s'
      → (p : List ValType) × Suits p s × Derives A locals final labels is p q

  -- a branch on a stack of its own
  inside_back : (is : Instrs) → Sound is → (labels : List (List ValType)) (k kb : ℕ) (bt : BlockType) (s2 : Own)
      → typed A locals final labels k is (begun A bt) ≡ Ok s2 → at_token kb (ended (results_of A bt) s2) ≡ Ok tt
      → Derives A locals final labels is (params_of A bt) (results_of A bt)
  inside_back is sound labels k kb bt s2 e ee =
      let r = results_of A bt in
      let b = sound labels k (begun A bt) s2 e r (before_end r s2 (at_good kb _ tt ee)) in
      subst (λ p. Derives A locals final labels is p r) (at_begin (params_of A bt) b.0 b.1) b.2

  -- what a block takes, and what comes behind it
  outside_back : (is : Instrs) → Sound is → (labels : List (List ValType)) (k n : ℕ) (test : Bool) (bt : BlockType) (s s1 s' : Own)
      → at_token k (entered A test bt s) ≡ Ok s1 → typed A locals final labels n is (pushed (results_of A bt) s1) ≡ Ok s' → (q : List ValType)
      → Suits q s' → (u : List ValType) × Suits (u ++ with_index test (params_of A bt)) s × (known A bt ≡ Ok tt)
      × Derives A locals final labels is (u ++ results_of A bt) q
  outside_back is sound labels k n test bt s s1 s' e ei q h =
      let b = sound labels n (pushed (results_of A bt) s1) s' ei q h in
      let c = before_pushed (results_of A bt) s1 b.0 b.1 in
      let d = bind_ok (known A bt) (λ u. popped (with_index test (params_of A bt)) s) s1 (at_good k _ s1 e) in
      (c.0, before_popped (with_index test (params_of A bt)) s s1 c.0 d.2 c.2, d.1, subst (λ p. Derives A locals final labels is p q) c.1 b.2)

  sound : (is : Instrs) → Sound is
  sound Finish labels k s s' e q h = (q, subst (Suits q) (sym (same_good s s' e)) h, refl)
  sound (One i rest) labels k s s' e q h =
      let m = effect_of A locals final labels i >>= λ w. after_effect w s in
      let b = bind_ok (at_token k m) (λ r. typed A locals final labels (k + 1) rest r) s' e in
      let c = bind_ok (effect_of A locals final labels i) (λ w. after_effect w s) b.0 (at_good k m b.0 b.1) in
      let d = sound rest labels (k + 1) b.0 s' b.2 q h in
      let f = effect_back c.0 s b.0 c.2 d.0 d.1 in
      (f.below ++ f.operands, f.suits, from_one labels i rest c.0 s q d.0 f c.1 d.2)
  sound (Block kind bt inside rest) labels k s s' e q h =
      let label = label_types A kind bt in
      let b = bind_ok (at_token k (entered A false bt s)) (within labels label (k + 1) bt inside rest) s' e in
      let c = bind_ok (typed A locals final (label ∷ labels) (k + 1) inside (begun A bt)) (closing labels (k + 1 + count inside) bt rest b.0) s' b.2 in
      let d = bind_ok (at_token (k + 1 + count inside) (ended (results_of A bt) c.0))
      (λ u. typed A locals final labels (k + 1 + count inside + 1) rest (pushed (results_of A bt) b.0)) s' c.2 in
      let o = outside_back rest (sound rest) labels k (k + 1 + count inside + 1) false bt s b.0 s' b.1 d.2 q h in
      let i = inside_back inside (sound inside) (label ∷ labels) (k + 1) (k + 1 + count inside) bt c.0 c.1 d.1 in
      (o.0 ++ params_of A bt, o.1, from_block labels kind bt inside rest q o.0 o.2 i o.3)
  sound (If bt first second rest) labels k s s' e q h =
      let rs = results_of A bt in
      let ka = k + 1 + count first in
      let kb = ka + else_count (is_finish second) in
      let kc = kb + count second in
      let b = bind_ok (at_token k (entered A true bt s)) (both labels (k + 1) bt first second rest) s' e in
      let c = bind_ok (typed A locals final (rs ∷ labels) (k + 1) first (begun A bt)) (halving labels ka kb bt second rest b.0) s' b.2 in
      let d = bind_ok (at_token ka (ended rs c.0)) (λ u. within labels rs kb bt second rest b.0) s' c.2 in
      let f = bind_ok (typed A locals final (rs ∷ labels) kb second (begun A bt)) (closing labels kc bt rest b.0) s' d.2 in
      let g = bind_ok (at_token kc (ended rs f.0)) (λ u. typed A locals final labels (kc + 1) rest (pushed rs b.0)) s' f.2 in
      let o = outside_back rest (sound rest) labels k (kc + 1) true bt s b.0 s' b.1 g.2 q h in
      let i = inside_back first (sound first) (rs ∷ labels) (k + 1) ka bt c.0 c.1 d.1 in
      let j = inside_back second (sound second) (rs ∷ labels) kb kc bt f.0 f.1 g.1 in
      (o.0 ++ (params_of A bt ++ I32 ∷ []), o.1, from_if labels bt first second rest q o.0 o.2 i j o.3)

  -- ---- forwards

  abbrev Complete : Instrs → Type 0
  Complete is = (labels : List (List ValType)) (k : ℕ) (s : Own) (p q : List ValType) → Derives A locals final labels is p q → Suits p s
      → (s' : Own) × (typed A locals final labels k is s ≡ Ok s') × Suits q s'

  -- a branch on a stack of its own, and its end
  inside_on : (is : Instrs) → Complete is → (labels : List (List ValType)) (k kb : ℕ) (bt : BlockType)
      → Derives A locals final labels is (params_of A bt) (results_of A bt)
      → (s2 : Own) × (typed A locals final labels k is (begun A bt) ≡ Ok s2) × (at_token kb (ended (results_of A bt) s2) ≡ Ok tt)
  inside_on is complete labels k kb bt h =
      let b = complete labels k (begun A bt) _ _ h (after_pushed (params_of A bt) fresh [] tt) in
      (b.0, b.1, ap (at_token kb) (may_end (results_of A bt) b.0 b.2))

  entered_on : (k : ℕ) (test : Bool) (bt : BlockType) (s : Own) (p u : List ValType) → known A bt ≡ Ok tt → p ≡ u ++ with_index test (params_of A bt)
      → Suits p s → (s1 : Own) × (at_token k (entered A test bt s) ≡ Ok s1) × Suits u s1
  entered_on k test bt s p u kn e h =
      let ts = with_index test (params_of A bt) in
      let b = after_popped ts s u (subst (λ r. Suits r s) e h) in
      (b.0, ap (λ m. at_token k (m >>= λ v. popped ts s)) kn ∙ ap (at_token k) b.1, b.2)

  complete : (is : Instrs) → Complete is
  complete Finish labels k s p q e h = (s, refl, subst (λ r. Suits r s) e h)
  complete (One i rest) labels k s p q d h =
      let a = effect_on d.3 s d.0 d.1 d.2 d.5 (subst (λ r. Suits r s) d.6 h) in
      let b = complete rest labels (k + 1) a.0 _ q d.7 a.2 in (
        b.0,
        ap (λ m. at_token k (m >>= λ w. after_effect w s) >>= λ r. typed A locals final labels (k + 1) rest r) d.4
            ∙ ap (λ m. at_token k m >>= λ r. typed A locals final labels (k + 1) rest r) a.1 ∙ b.1,
        b.2,
      )
  complete (Block kind bt inside rest) labels k s p q d h =
      let rs = results_of A bt in
      let label = label_types A kind bt in
      let kb = k + 1 + count inside in
      let i = subst (λ l. Derives A locals final (l ∷ labels) inside (params_of A bt) rs) (sym (same_label A kind bt)) d.2 in
      let a = entered_on k false bt s p d.0 d.1 d.3 h in
      let b = inside_on inside (complete inside) (label ∷ labels) (k + 1) kb bt i in
      let c = complete rest labels (kb + 1) (pushed rs a.0) _ q d.4 (after_pushed rs a.0 d.0 a.2) in (
        c.0,
        ap (λ m. m >>= within labels label (k + 1) bt inside rest) a.1 ∙ ap (λ m. m >>= closing labels kb bt rest a.0) b.1
            ∙ ap (λ m. m >>= λ u. typed A locals final labels (kb + 1) rest (pushed rs a.0)) b.2 ∙ c.1,
        c.2,
      )
  complete (If bt first second rest) labels k s p q d h =
      let rs = results_of A bt in
      let ka = k + 1 + count first in
      let kb = ka + else_count (is_finish second) in
      let kc = kb + count second in
      let a = entered_on k true bt s p d.0 d.1 d.4 h in
      let b = inside_on first (complete first) (rs ∷ labels) (k + 1) ka bt d.2 in
      let c = inside_on second (complete second) (rs ∷ labels) kb kc bt d.3 in
      let f = complete rest labels (kc + 1) (pushed rs a.0) _ q d.5 (after_pushed rs a.0 d.0 a.2) in (
        f.0,
        ap (λ m. m >>= both labels (k + 1) bt first second rest) a.1 ∙ ap (λ m. m >>= halving labels ka kb bt second rest a.0) b.1
            ∙ ap (λ m. m >>= λ u. within labels rs kb bt second rest a.0) b.2 ∙ ap (λ m. m >>= closing labels kc bt rest a.0) c.1
            ∙ ap (λ m. m >>= λ v. typed A locals final labels (kc + 1) rest (pushed rs a.0)) c.2 ∙ f.1,
        f.2,
      )

-- ---- code and bodies

pub code_derived : (A : Ref → Found) (locals : ℕ → Option ValType) (rs : List ValType) (is : Instrs) → code_result A locals rs is ≡ Ok tt
    → Derives A locals rs (rs ∷ []) is [] rs
code_derived A locals rs is e =
    let d = bind_ok (typed A locals rs (rs ∷ []) 0 is fresh) _ tt e in
    let f = sound A locals rs is (rs ∷ []) 0 fresh d.0 d.1 rs (before_end rs d.0 (at_good (count is) _ tt d.2)) in
    subst (λ p. Derives A locals rs (rs ∷ []) is p rs) (at_begin [] f.0 f.1) f.2

pub code_typed : (A : Ref → Found) (locals : ℕ → Option ValType) (rs : List ValType) (is : Instrs) → Derives A locals rs (rs ∷ []) is [] rs
    → code_result A locals rs is ≡ Ok tt
code_typed A locals rs is h =
    let c = complete A locals rs is (rs ∷ []) 0 fresh [] rs h tt in
    ap (λ m. m >>= λ s. at_token (count is) (ended rs s)) c.1 ∙ ap (at_token (count is)) (may_end rs c.0 c.2)

body_derived : (A : Ref → Found) (t : ℕ) (b : BodyOf) → body_result A t b ≡ Ok tt → IsDerived A t b
body_derived A t b e =
    let c = bind_ok (at_token 0 (known A (Index t))) _ tt e in
    record {
      known_type = at_good 0 (known A (Index t)) tt c.1;
      derives = code_derived A (local_type (params_of A (Index t)) b.groups) (results_of A (Index t)) b.instrs c.2;
    }

body_typed : (A : Ref → Found) (t : ℕ) (b : BodyOf) → IsDerived A t b → body_result A t b ≡ Ok tt
body_typed A t b h =
    let rs = results_of A (Index t) in
    let locals = local_type (params_of A (Index t)) b.groups in
    ap (λ m. at_token 0 m >>= λ u. code_result A locals rs b.instrs) h.known_type ∙ code_typed A locals rs b.instrs h.derives

pub valid_good : (r : Result (Unit {0}) TokenFault) → Valid ≡ verdict_of r → r ≡ Ok tt
valid_good (Ok u) e = refl
valid_good (Err f) e = cc

pub valid_derived : (A : Ref → Found) (t : ℕ) (b : BodyOf) (v : BodyVerdict) → v ≡ body_verdict A t b → v ≡ Valid → IsDerived A t b
valid_derived A t b v e h = body_derived A t b (valid_good (body_result A t b) (sym h ∙ e))

pub derived_valid : (A : Ref → Found) (t : ℕ) (b : BodyOf) (v : BodyVerdict) → v ≡ body_verdict A t b → IsDerived A t b → v ≡ Valid
derived_valid A t b v e h = e ∙ ap verdict_of (body_typed A t b h)
