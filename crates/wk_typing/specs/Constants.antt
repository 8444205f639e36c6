-- Constant expressions (3.3.7.2): the initialisers of globals and the offsets of segments.
use Rattle.std.specs.Prelude.{ℕ, ◌+◌, Bool, true, false, not, if◌then◌else◌, List, [], ◌∷◌, Option, Some, None, Result, Ok, Err}
use Rattle.wk_body.specs.declared.types.ValType.{ValType}
use Rattle.wk_body.specs.declared.types.ValType.TheVariants.{I32, I64, F32, F64}
use Rattle.wk_body.specs.declared.references.Ref.{Ref}
use Rattle.wk_body.specs.declared.references.Ref.TheVariants as refs
use Rattle.wk_body.specs.Instructions.{Plain, GlobalGet, I32Const, I64Const, F32Const, F64Const}
use Rattle.wk_body.specs.Tree.{Instrs, Finish, One, Block, If, Tok, Simple, Close}
use Rattle.wk_typing.specs.declared.fault.FaultKind.TheVariants.{ConstantExpected}
use Rattle.wk_typing.specs.declared.fault.Flaw.{Flaw}
use Rattle.wk_typing.specs.Answers.{Found, GlobalIs}
use Rattle.wk_typing.specs.Own.{TokenFault}
use Rattle.wk_typing.specs.Typing.{code_result}

-- a global that may be set is not constant; one that is not found is for typing to refuse
abbrev pub is_constant_global : Found → Bool
is_constant_global (GlobalIs g) = not g.mutable
is_constant_global _ = true

abbrev pub is_constant : (Ref → Found) → Plain → Bool
is_constant A (I32Const z) = true
is_constant A (I64Const z) = true
is_constant A (F32Const word) = true
is_constant A (F64Const word) = true
is_constant A (GlobalGet x) = is_constant_global (A (refs.Global x))
is_constant A _ = false

-- the first token that is not constant, where the first instruction is token k
abbrev pub first_varying : (Ref → Found) → ℕ → Instrs → Option ℕ
first_varying A k Finish = None
first_varying A k (One p rest) = if is_constant A p then first_varying A (k + 1) rest else Some k
first_varying A k (Block kind bt inside rest) = Some k
first_varying A k (If bt first second rest) = Some k

abbrev pub no_locals : ℕ → Option ValType
no_locals x = None

abbrev pub token_flaw : Result (Unit {0}) TokenFault → Option Flaw
token_flaw (Ok u) = None
token_flaw (Err f) = Some (record { kind = f.kind; token = Some f.token })

abbrev pub constant_by : Option ℕ → Option Flaw → Option Flaw
constant_by None typing = typing
constant_by (Some k) typing = Some (record { kind = ConstantExpected; token = Some k })

-- what is wrong with a constant expression of a type: a token that is not constant, else a fault of typing
abbrev pub constant_flaw : (Ref → Found) → ValType → Instrs → Option Flaw
constant_flaw A t is = constant_by (first_varying A 0 is) (token_flaw (code_result A no_locals (t ∷ []) is))

-- ---- one constant

-- the constant of a type (3.3.1)
abbrev pub is_constant_of : ValType → Plain → Bool
is_constant_of I32 (I32Const z) = true
is_constant_of I64 (I64Const z) = true
is_constant_of F32 (F32Const word) = true
is_constant_of F64 (F64Const word) = true
is_constant_of t p = false

-- its opcode (5.4.5)
abbrev pub constant_opcode : ValType → ℕ
constant_opcode I32 = 0x41
constant_opcode I64 = 0x42
constant_opcode F32 = 0x43
constant_opcode F64 = 0x44

-- ---- the same on tokens

abbrev pub is_constant_tok : (Ref → Found) → Tok → Bool
is_constant_tok A (Simple p) = is_constant A p
is_constant_tok A Close = true
is_constant_tok A _ = false

abbrev pub first_varying_tok : (Ref → Found) → ℕ → List Tok → Option ℕ
first_varying_tok A k [] = None
first_varying_tok A k (t ∷ ts) = if is_constant_tok A t then first_varying_tok A (k + 1) ts else Some k
