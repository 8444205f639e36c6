-- The typing of instructions, by recursion on their tree: each block has an operand stack of its own (3.3, and the algorithm of
-- the standard's appendix "Validation Algorithm" told on trees).
use Rattle.std.specs.Prelude.{ℕ, suc, ◌+◌, Bool, true, false, List, [], ◌∷◌, ◌++◌, Result, Ok, Err, Option}
use Rattle.wk_bytes.specs.Leb.{◌>>=◌}
use Rattle.wk_body.specs.declared.types.ValType.{ValType}
use Rattle.wk_body.specs.declared.types.ValType.TheVariants.{I32}
use Rattle.wk_body.specs.declared.types.BlockType.{BlockType}
use Rattle.wk_body.specs.declared.types.BlockType.TheVariants.{Index}
use Rattle.wk_body.specs.declared.types.BlockKind.{BlockKind}
use Rattle.wk_body.specs.declared.types.BlockKind.TheVariants as kinds
use Rattle.wk_body.specs.declared.references.Ref.{Ref}
use Rattle.wk_body.specs.Bodies.{BodyOf}
use Rattle.wk_body.specs.Tree.{Instrs, Finish, One, Block, If}
use Rattle.wk_typing.specs.declared.fault.FaultKind.{FaultKind}
use Rattle.wk_typing.specs.declared.fault.BodyVerdict.{BodyVerdict}
use Rattle.wk_typing.specs.declared.fault.BodyVerdict.TheVariants.{Valid, Invalid}
use Rattle.wk_typing.specs.Answers.{Found}
use Rattle.wk_typing.specs.Slots.{selected}
use Rattle.wk_typing.specs.Own.{Own, TokenFault, at_token, popped, popped_any, popped_one, pushed, pushed_one, fresh, stopped, ended}
use Rattle.wk_typing.specs.Effects.{Effect, Takes, Stops, Drops, Selects, known, params_of, results_of, effect_of, local_type}

-- ---- one instruction that holds no others

-- the own stack after an effect
abbrev pub after_effect : Effect → Own → Result Own FaultKind
after_effect (Takes ts us) s = popped ts s >>= λ s'. Ok (pushed us s')
after_effect (Stops ts) s = popped ts s >>= λ s'. Ok stopped
after_effect Drops s = popped_any s >>= λ p. Ok (p.1)
after_effect Selects s =
    popped (I32 ∷ []) s >>= λ s1. (popped_any s1 >>= λ p. (popped_one (p.0) (p.1) >>= λ q. Ok (pushed_one (selected (p.0) (q.0)) (q.1))))

-- ---- numbers of tokens: instructions with `else` and `end`, in the order in which they are written

-- nothing stands in an else branch that is not written
abbrev pub is_finish : Instrs → Bool
is_finish Finish = true
is_finish _ = false

-- the number of tokens of a written else
abbrev pub else_count : Bool → ℕ
else_count true = 0
else_count false = 1

-- the number of tokens, without the last end
abbrev pub count : Instrs → ℕ
count Finish = 0
count (One p rest) = suc (count rest)
count (Block kind ty inside rest) = 2 + count inside + count rest
count (If ty first second rest) = 2 + count first + else_count (is_finish second) + count second + count rest

-- ---- typing

-- operands, and above them an i32 where there is a test or an index
abbrev pub with_index : Bool → List ValType → List ValType
with_index true ts = ts ++ I32 ∷ []
with_index false ts = ts

-- the outer block's stack without the operands that a block of this type takes
abbrev pub entered : (Ref → Found) → Bool → BlockType → Own → Result Own FaultKind
entered A test bt s = known A bt >>= λ u. popped (with_index test (params_of A bt)) s

-- the own stack with which a block of this type begins
abbrev pub begun : (Ref → Found) → BlockType → Own
begun A bt = pushed (params_of A bt) fresh

-- what a branch to a block takes: to a block's end its results, to a loop's beginning its parameters
abbrev pub label_types : (Ref → Found) → BlockKind → BlockType → List ValType
label_types A kinds.Block bt = results_of A bt
label_types A kinds.Loop bt = params_of A bt

-- The own stack after some instructions, the first of which is token k; or the first fault. References find A, locals have
-- these types, the function these results, and the labels these types, the innermost first.
abbrev pub typed : (Ref → Found) → (ℕ → Option ValType) → List ValType → List (List ValType) → ℕ → Instrs → Own → Result Own TokenFault
typed A locals final labels k Finish s = Ok s
typed A locals final labels k (One p rest) s =
    at_token k (effect_of A locals final labels p >>= λ e. after_effect e s) >>= λ s'.
    typed A locals final labels (k + 1) rest s'
typed A locals final labels k (Block kind bt inside rest) s =
    at_token k (entered A false bt s) >>= λ s1.
    (typed A locals final (label_types A kind bt ∷ labels) (k + 1) inside (begun A bt) >>= λ s2.
    (at_token (k + 1 + count inside) (ended (results_of A bt) s2) >>= λ u.
    typed A locals final labels (k + 1 + count inside + 1) rest (pushed (results_of A bt) s1)))
typed A locals final labels k (If bt first second rest) s =
    at_token k (entered A true bt s) >>= λ s1.
    (typed A locals final (results_of A bt ∷ labels) (k + 1) first (begun A bt) >>= λ s2.
    (at_token (k + 1 + count first) (ended (results_of A bt) s2) >>= λ u.
    (typed A locals final (results_of A bt ∷ labels) (k + 1 + count first + else_count (is_finish second)) second (begun A bt) >>= λ s3.
    (at_token (k + 1 + count first + else_count (is_finish second) + count second) (ended (results_of A bt) s3) >>= λ v.
    typed A locals final labels (k + 1 + count first + else_count (is_finish second) + count second + 1) rest (pushed (results_of A bt) s1)))))

-- instructions up to their last end, which leave these types and nothing else
abbrev pub code_result : (Ref → Found) → (ℕ → Option ValType) → List ValType → Instrs → Result (Unit {0}) TokenFault
code_result A locals final is =
    typed A locals final (final ∷ []) 0 is fresh >>= λ s. at_token (count is) (ended final s)

-- a body of this type: whether its type is known, its instructions, and its end
abbrev pub body_result : (Ref → Found) → ℕ → BodyOf → Result (Unit {0}) TokenFault
body_result A t b =
    at_token 0 (known A (Index t)) >>= λ u.
    code_result A (local_type (params_of A (Index t)) b.groups) (results_of A (Index t)) b.instrs

abbrev pub verdict_of : Result (Unit {0}) TokenFault → BodyVerdict
verdict_of (Ok u) = Valid
verdict_of (Err f) = Invalid f.kind f.token

-- whether a body of this type is valid, or its first fault (3.4.1)
abbrev pub body_verdict : (Ref → Found) → ℕ → BodyOf → BodyVerdict
body_verdict A t b = verdict_of (body_result A t b)
