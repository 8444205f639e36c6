-- Constant expressions, from tokens to the tree.
use Rattle.std.proofs.Common.{◌≡◌, ℕ, ◌+◌, ◌<◌, ◌≤◌, Bool, true, false, nat_lt, if◌then◌else◌, List, [], ◌∷◌, length, drop, get_or, Option, Some, None, Result}
use Rattle.std.proofs.Common.{refl, sym, ap, ◌∙◌}
use Rattle.std.proofs.lemmas.List.{at_drop_more, at_drop_all}
use Rattle.wk_body.specs.declared.types.ValType.{ValType}
use Rattle.wk_body.specs.declared.references.Ref.{Ref}
use Rattle.wk_body.specs.declared.token.Token.{Token}
use Rattle.wk_body.specs.declared.token.Token.TheVariants as kept
use Rattle.wk_body.specs.Kept.{told, all_told}
use Rattle.wk_body.specs.Tree.{Instrs, Finish, One, Block, If, tokens_of}
use Rattle.wk_typing.specs.declared.fault.FaultKind.{FaultKind}
use Rattle.wk_typing.specs.declared.fault.FaultKind.TheVariants.{ConstantExpected}
use Rattle.wk_typing.specs.declared.fault.Flaw.{Flaw}
use Rattle.wk_typing.specs.Answers.{Found}
use Rattle.wk_typing.specs.Constants.{is_constant, is_constant_tok, first_varying, first_varying_tok, constant_flaw, constant_by, token_flaw, no_locals}
use Rattle.wk_typing.specs.Effects.{local_type}
use Rattle.wk_typing.specs.Locals.{LocalsOf}
use Rattle.wk_typing.specs.Moves.{JudgedAs}
use Rattle.wk_typing.specs.Own.{TokenFault}
use Rattle.wk_typing.specs.Typing.{code_result}

-- ---- the first token that varies, token by token

-- what is left of the tokens
abbrev left : (Ref → Found) → List Token → ℕ → Option ℕ
left A ts at = first_varying_tok A at (all_told [] (drop at ts))

by_token : (A : Ref → Found) (ts : List Token) (at : ℕ) (t : Token) (b : Bool) → at < length ts → is_constant_tok A (told [] (get_or ts at t)) ≡ b
    → left A ts at ≡ (if b then left A ts (at + 1) else Some at)
by_token A ts at t b inside test =
    at_drop_more (λ (us : List Token). first_varying_tok A at (all_told [] us)) ts at t inside
    ∙ ap (λ (c : Bool). if c then left A ts (at + 1) else Some at) test

pub varying_here : (A : Ref → Found) (ts : List Token) (at : ℕ) (t : Token) → at < length ts → left A ts at ≡ first_varying_tok A 0 (all_told [] ts)
    → is_constant_tok A (told [] (get_or ts at t)) ≡ false → Some at ≡ first_varying_tok A 0 (all_told [] ts)
varying_here A ts at t inside walk test = sym (by_token A ts at t false inside test) ∙ walk

pub varying_behind : (A : Ref → Found) (ts : List Token) (at : ℕ) (t : Token) → at < length ts → left A ts at ≡ first_varying_tok A 0 (all_told [] ts)
    → is_constant_tok A (told [] (get_or ts at t)) ≡ true → left A ts (at + 1) ≡ first_varying_tok A 0 (all_told [] ts)
varying_behind A ts at t inside walk test = sym (by_token A ts at t true inside test) ∙ walk

pub varying_none : (A : Ref → Found) (ts : List Token) (at : ℕ) → length ts ≤ at → left A ts at ≡ first_varying_tok A 0 (all_told [] ts)
    → None ≡ first_varying_tok A 0 (all_told [] ts)
varying_none A ts at past walk = sym (at_drop_all (λ (us : List Token). first_varying_tok A at (all_told [] us)) ts at past) ∙ walk

-- ---- labels do not matter

same_token : (A : Ref → Found) (pool : List ℕ) (t : Token) → is_constant_tok A (told [] t) ≡ is_constant_tok A (told pool t)
same_token A pool (kept.BrTable start len other) = refl
same_token A pool t = refl

same_tokens : (A : Ref → Found) (pool : List ℕ) (k : ℕ) (ts : List Token) → first_varying_tok A k (all_told [] ts) ≡ first_varying_tok A k (all_told pool ts)
same_tokens A pool k [] = refl
same_tokens A pool k (t ∷ ts) =
    ap (λ (b : Bool). if b then first_varying_tok A (k + 1) (all_told [] ts) else Some k) (same_token A pool t)
    ∙ ap (λ (o : Option ℕ). if is_constant_tok A (told pool t) then o else Some k) (same_tokens A pool (k + 1) ts)

-- ---- the tree: the only end that is reached is the last, as a block varies

in_tree : (A : Ref → Found) (k : ℕ) (is : Instrs) → first_varying_tok A k (tokens_of is) ≡ first_varying A k is
in_tree A k Finish = refl
in_tree A k (One p rest) = ap (λ (o : Option ℕ). if is_constant A p then o else Some k) (in_tree A (k + 1) rest)
in_tree A k (Block kind bt inside rest) = refl
in_tree A k (If bt first second rest) = refl

pub varying_in : (A : Ref → Found) (pool : List ℕ) (ts : List Token) (is : Instrs) → all_told pool ts ≡ tokens_of is
    → first_varying_tok A 0 (all_told [] ts) ≡ first_varying A 0 is
varying_in A pool ts is e = same_tokens A pool 0 ts ∙ ap (first_varying_tok A 0) e ∙ in_tree A 0 is

-- ---- without locals

none_by : (b : Bool) → ◌≡◌ {A = Option ValType} (if b then None else None) None
none_by true = refl
none_by false = refl

no_local : (x : ℕ) → local_type [] [] x ≡ no_locals x
no_local x = none_by (nat_lt x 0)

no_locals_are : local_type [] [] ≡ no_locals
no_locals_are = λ i x. no_local x i

-- ---- the flaw of a constant expression

-- the flaw that an answer of typing is
abbrev pub flaw_of : Option (FaultKind × ℕ) → Option Flaw
flaw_of None = None
flaw_of (Some p) = Some (record { kind = p.0; token = Some (p.1) })

by_judged : (r : Result (Unit {0}) TokenFault) (o : Option (FaultKind × ℕ)) → JudgedAs r o → flaw_of o ≡ token_flaw r
by_judged r None h = sym (ap token_flaw h)
by_judged r (Some p) h = sym (ap token_flaw h)

-- a token varies
pub constant_varies : (A : Ref → Found) (t : ValType) (is : Instrs) (pool : List ℕ) (ts : List Token) (k : ℕ) → all_told pool ts ≡ tokens_of is
    → Some k ≡ first_varying_tok A 0 (all_told [] ts)
    → Some (record { kind = ConstantExpected; token = Some k }) ≡ constant_flaw A t is
constant_varies A t is pool ts k written at =
    ap (λ (o : Option ℕ). constant_by o (token_flaw (code_result A no_locals (t ∷ []) is))) (at ∙ varying_in A pool ts is written)

-- no token varies, and the expression is typed as one without locals
pub constant_typed : (A : Ref → Found) (t : ValType) (is : Instrs) (pool : List ℕ) (ts : List Token) (locals : LocalsOf) (final : List ValType)
    (o : Option (FaultKind × ℕ)) → all_told pool ts ≡ tokens_of is → None ≡ first_varying_tok A 0 (all_told [] ts)
    → locals ≡ record { params = []; groups = [] } → final ≡ t ∷ [] → JudgedAs (code_result A (local_type locals.params locals.groups) final is) o
    → flaw_of o ≡ constant_flaw A t is
constant_typed A t is pool ts locals final o written none without results judged =
    by_judged (code_result A (local_type locals.params locals.groups) final is) o judged
    ∙ ap (λ (l : LocalsOf). token_flaw (code_result A (local_type l.params l.groups) final is)) without
    ∙ ap (λ (l : ℕ → Option ValType). token_flaw (code_result A l final is)) no_locals_are
    ∙ ap (λ (us : List ValType). token_flaw (code_result A no_locals us is)) results
    ∙ ap (λ (k : Option ℕ). constant_by k (token_flaw (code_result A no_locals (t ∷ []) is))) (none ∙ varying_in A pool ts is written)
