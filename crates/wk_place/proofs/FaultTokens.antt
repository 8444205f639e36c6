-- The tokens of faults are tokens of the instructions in which they are found.
use Rattle.std.proofs.Common.{◌≡◌, ◌⊎◌, if◌then◌else◌, ℕ, suc, ◌+◌, ◌<◌, Bool, true, false, inl, inr, List, [], ◌∷◌, Option, Some, None, Result, Ok, Err, refl, sym, ap}
use Rattle.std.proofs.Common.{arith}
use Rattle.wk_bytes.specs.Leb.{◌>>=◌}
use Rattle.wk_bytes.specs.LebLaws.{some_is}
use Rattle.wk_body.specs.declared.references.Ref.{Ref}
use Rattle.wk_body.specs.declared.types.BlockType.TheVariants.{Index}
use Rattle.wk_body.specs.declared.types.ValType.{ValType}
use Rattle.wk_body.specs.Bodies.{BodyOf}
use Rattle.wk_body.specs.Tree.{Instrs, Finish, One, Block, If}
use Rattle.wk_typing.specs.declared.fault.FaultKind.{FaultKind}
use Rattle.wk_typing.specs.declared.fault.Flaw.{Flaw}
use Rattle.wk_typing.specs.Answers.{Found}
use Rattle.wk_typing.specs.Constants.{is_constant, first_varying, no_locals, token_flaw, constant_by, constant_flaw}
use Rattle.wk_typing.specs.Faults.{body_flaw}
use Rattle.wk_typing.specs.Own.{Own, TokenFault, at_token, pushed, fresh, ended}
use Rattle.wk_typing.specs.Effects.{effect_of, known, params_of, results_of, local_type}
use Rattle.wk_typing.specs.Typing.{after_effect, entered, begun, label_types, count, else_count, is_finish, typed, code_result, body_result, body_verdict, verdict_of}
use Rattle.wk_check.specs.Items.{earlier, unless}

-- ---- steps that fail

abbrev failed : (A : Type 0) → TokenFault → Result A TokenFault
failed A e = Err e

same_fault : {A : Type 0} (d e : TokenFault) → failed A d ≡ failed A e → d ≡ e
same_fault d e h = cc

at_fails : {A : Type 0} (k : ℕ) (r : Result A FaultKind) (f : TokenFault) → at_token k r ≡ Err f → f.token ≡ k
at_fails k (Ok x) f h = absurd cc
at_fails {A = A} k (Err d) f h = sym (ap (λ (e : TokenFault). e.token) (same_fault {A = A} (record { kind = d; token = k }) f h))

-- ---- typing

-- a step at a token, and then others
step_within : {A B : Type 0} (k lim : ℕ) (r : Result A FaultKind) (more : A → Result B TokenFault) (f : TokenFault) → k < lim
    → ((x : A) → more x ≡ Err f → f.token < lim) → (at_token k r >>= more) ≡ Err f → f.token < lim
step_within k lim (Ok x) more f lt others h = others x h
step_within {A = A} {B = B} k lim (Err d) more f lt others h =
    let at : record { kind = d; token = k } ≡ f = same_fault {A = B} (record { kind = d; token = k }) f h in
    omega (arith, ap (λ (e : TokenFault). e.token) at, lt)

-- instructions, and then others
part_within : {A B : Type 0} (lim : ℕ) (r : Result A TokenFault) (more : A → Result B TokenFault) (f : TokenFault) → (r ≡ Err f → f.token < lim)
    → ((x : A) → more x ≡ Err f → f.token < lim) → (r >>= more) ≡ Err f → f.token < lim
part_within lim (Ok x) more f first others h = others x h
part_within {A = A} {B = B} lim (Err d) more f first others h = first (ap (failed A) (same_fault {A = B} d f h))

-- a fault of instructions is one of their tokens
typed_within : (A : Ref → Found) (locals : ℕ → Option ValType) (final : List ValType) (labels : List (List ValType)) (k : ℕ) (is : Instrs) (s : Own)
    (f : TokenFault) → typed A locals final labels k is s ≡ Err f → f.token < k + count is
typed_within A locals final labels k Finish s f h = absurd cc
typed_within A locals final labels k (One p rest) s f h =
    step_within k (k + count (One p rest)) (effect_of A locals final labels p >>= λ e. after_effect e s)
    (λ s'. typed A locals final labels (k + 1) rest s') f (omega arith)
    (λ s' e. omega (arith, typed_within A locals final labels (k + 1) rest s' f e)) h
typed_within A locals final labels k (Block kind bt inside rest) s f h =
    let lim = k + count (Block kind bt inside rest) in
    let past = k + 1 + count inside in
    let last = λ (s1 : Own) (u : Unit {0}). typed A locals final labels (past + 1) rest (pushed (results_of A bt) s1) in
    let inner = typed A locals final (label_types A kind bt ∷ labels) (k + 1) inside (begun A bt) in
    step_within k lim (entered A false bt s) (λ s1. inner >>= λ s2. at_token past (ended (results_of A bt) s2) >>= last s1) f (omega arith)
    (λ s1. part_within lim inner (λ s2. at_token past (ended (results_of A bt) s2) >>= last s1) f
    (λ e. omega (arith, typed_within A locals final (label_types A kind bt ∷ labels) (k + 1) inside (begun A bt) f e))
    (λ s2. step_within past lim (ended (results_of A bt) s2) (last s1) f (omega arith)
    (λ u e. omega (arith, typed_within A locals final labels (past + 1) rest (pushed (results_of A bt) s1) f e)))) h
typed_within A locals final labels k (If bt first second rest) s f h =
    let lim = k + count (If bt first second rest) in
    let past = k + 1 + count first in
    let other = past + else_count (is_finish second) in
    let out = other + count second in
    let inner = results_of A bt ∷ labels in
    let last = λ (s1 : Own) (u : Unit {0}). typed A locals final labels (out + 1) rest (pushed (results_of A bt) s1) in
    let two = typed A locals final inner other second (begun A bt) in
    let third = λ (s1 : Own) (u : Unit {0}). two >>= λ s3. at_token out (ended (results_of A bt) s3) >>= last s1 in
    let one = typed A locals final inner (k + 1) first (begun A bt) in
    step_within k lim (entered A true bt s) (λ s1. one >>= λ s2. at_token past (ended (results_of A bt) s2) >>= third s1) f (omega arith)
    (λ s1. part_within lim one (λ s2. at_token past (ended (results_of A bt) s2) >>= third s1) f
    (λ e. omega (arith, typed_within A locals final inner (k + 1) first (begun A bt) f e))
    (λ s2. step_within past lim (ended (results_of A bt) s2) (third s1) f (omega arith)
    (λ u. part_within lim two (λ s3. at_token out (ended (results_of A bt) s3) >>= last s1) f
    (λ e. omega (arith, typed_within A locals final inner other second (begun A bt) f e))
    (λ s3. step_within out lim (ended (results_of A bt) s3) (last s1) f (omega arith)
    (λ v e. omega (arith, typed_within A locals final labels (out + 1) rest (pushed (results_of A bt) s1) f e)))))) h

code_within : (A : Ref → Found) (locals : ℕ → Option ValType) (final : List ValType) (is : Instrs) (f : TokenFault) → code_result A locals final is ≡ Err f
    → f.token < suc (count is)
code_within A locals final is f h =
    part_within (suc (count is)) (typed A locals final (final ∷ []) 0 is fresh) (λ s. at_token (count is) (ended final s)) f
    (λ e. omega (arith, typed_within A locals final (final ∷ []) 0 is fresh f e))
    (λ s e. omega (arith, at_fails (count is) (ended final s) f e)) h

body_within : (A : Ref → Found) (t : ℕ) (b : BodyOf) (f : TokenFault) → body_result A t b ≡ Err f → f.token < suc (count b.instrs)
body_within A t b f h =
    let locals = local_type (params_of A (Index t)) b.groups in
    let results = results_of A (Index t) in
    step_within 0 (suc (count b.instrs)) (known A (Index t)) (λ u. code_result A locals results b.instrs) f (omega arith)
    (λ u e. code_within A locals results b.instrs f e) h

-- ---- flaws

-- a flaw names no token, or one below a bound
abbrev pub IsBelow : ℕ → Flaw → Type 0
IsBelow bound w = (w.token ≡ None) ⊎ ((n : ℕ) × (w.token ≡ Some n) × (n < bound))

abbrev pub AreBelow : ℕ → Option Flaw → Type 0
AreBelow bound o = (w : Flaw) → o ≡ Some w → IsBelow bound w

pub below_earlier : (bound : ℕ) (a b : Option Flaw) → AreBelow bound a → AreBelow bound b → AreBelow bound (earlier a b)
below_earlier bound (Some x) b one two = one
below_earlier bound None b one two = two

pub below_none : (bound : ℕ) → AreBelow bound None
below_none bound w h = absurd cc

pub below_unless : (bound : ℕ) (kind : FaultKind) (b : Bool) → AreBelow bound (unless kind b)
below_unless bound kind true w h = absurd cc
below_unless bound kind false w h = inl (ap (λ (v : Flaw). v.token) (sym (some_is (record { kind = kind; token = None }) w h)))

token_below : (bound : ℕ) (kind : FaultKind) (n : ℕ) → n < bound → AreBelow bound (Some (record { kind = kind; token = Some n }))
token_below bound kind n lt w h = inr (n, ap (λ (v : Flaw). v.token) (sym (some_is (record { kind = kind; token = Some n }) w h)), lt)

below_result : (bound : ℕ) (r : Result (Unit {0}) TokenFault) → ((f : TokenFault) → r ≡ Err f → f.token < bound) → AreBelow bound (token_flaw r)
below_result bound (Ok u) h = below_none bound
below_result bound (Err f) h = token_below bound f.kind f.token (h f refl)

varying_by : (k m n : ℕ) (b : Bool) (o : Option ℕ) → (o ≡ Some n → n < k + suc m) → (if b then o else Some k) ≡ Some n → n < k + suc m
varying_by k m n true o more h = more h
varying_by k m n false o more h = omega (arith, some_is k n h)

varying_within : (A : Ref → Found) (k : ℕ) (is : Instrs) (n : ℕ) → first_varying A k is ≡ Some n → n < k + count is
varying_within A k Finish n h = absurd cc
varying_within A k (One p rest) n h =
    varying_by k (count rest) n (is_constant A p) (first_varying A (k + 1) rest) (λ e. omega (arith, varying_within A (k + 1) rest n e)) h
varying_within A k (Block kind bt inside rest) n h = omega (arith, some_is k n h)
varying_within A k (If bt first second rest) n h = omega (arith, some_is k n h)

constant_below : (bound : ℕ) (o : Option ℕ) (typing : Option Flaw) → ((n : ℕ) → o ≡ Some n → n < bound) → AreBelow bound typing
    → AreBelow bound (constant_by o typing)
constant_below bound None typing h other = other
constant_below bound (Some k) typing h other = token_below bound _ k (h k refl)

pub below_constant : (A : Ref → Found) (t : ValType) (is : Instrs) → AreBelow (suc (count is)) (constant_flaw A t is)
below_constant A t is =
    constant_below (suc (count is)) (first_varying A 0 is) (token_flaw (code_result A no_locals (t ∷ []) is))
    (λ n h. omega (arith, varying_within A 0 is n h))
    (below_result (suc (count is)) (code_result A no_locals (t ∷ []) is) (code_within A no_locals (t ∷ []) is))

below_verdict : (bound : ℕ) (r : Result (Unit {0}) TokenFault) → ((f : TokenFault) → r ≡ Err f → f.token < bound) → AreBelow bound (body_flaw (verdict_of r))
below_verdict bound (Ok u) h = below_none bound
below_verdict bound (Err f) h = token_below bound f.kind f.token (h f refl)

pub below_body : (A : Ref → Found) (t : ℕ) (b : BodyOf) → AreBelow (suc (count b.instrs)) (body_flaw (body_verdict A t b))
below_body A t b = below_verdict (suc (count b.instrs)) (body_result A t b) (body_within A t b)
