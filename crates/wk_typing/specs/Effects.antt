-- What each instruction that holds no others asks of its immediates, takes and gives (3.3); the parameters and results of block types.
use Rattle.std.specs.Prelude.{ℕ, ◌-◌, ◌^◌, Bool, true, false, if◌then◌else◌, nat_lt, List, [], ◌∷◌, ◌++◌, Result, Ok, Err, Option, Some, None, is_some}
use Rattle.std.specs.Prelude.{slice_get, length}
use Rattle.wk_bytes.specs.Leb.{◌>>=◌}
use Rattle.wk_body.specs.declared.types.ValType.{ValType}
use Rattle.wk_body.specs.declared.types.ValType.TheVariants.{I32, I64, F32, F64}
use Rattle.wk_body.specs.declared.types.BlockType.{BlockType}
use Rattle.wk_body.specs.declared.types.BlockType.TheVariants.{Empty, Value, Index}
use Rattle.wk_body.specs.declared.types.LocalGroup.{LocalGroup}
use Rattle.wk_body.specs.declared.memory.MemoryOp.{MemoryOp}
use Rattle.wk_body.specs.declared.numeric.NumericType.{NumericType}
use Rattle.wk_body.specs.declared.numeric.NumericType.TheVariants.{Unary, Binary}
use Rattle.wk_body.specs.declared.references.Ref.{Ref}
use Rattle.wk_body.specs.declared.references.Ref.TheVariants as refs
use Rattle.wk_body.specs.Instructions as plain
use Rattle.wk_body.specs.Instructions.{Plain}
use Rattle.wk_body.specs.MemoryOps.{memory_type, memory_width, memory_stores}
use Rattle.wk_body.specs.Numeric.{numeric_type}
use Rattle.wk_typing.specs.declared.fault.FaultKind.{FaultKind}
use Rattle.wk_typing.specs.declared.fault.FaultKind.TheVariants.{UnknownType, UnknownFunc, UnknownLocal, UnknownLabel, LabelTypes, UnknownTable, UnknownMemory}
use Rattle.wk_typing.specs.declared.fault.FaultKind.TheVariants.{UnknownGlobal, GlobalImmutable, Alignment}
use Rattle.wk_typing.specs.Answers.{Found, TypeIs, FuncIs, FuncOfNoType, GlobalIs, IsPresent}
use Rattle.wk_typing.specs.Slots.{same}

-- what an instruction takes from its block's own stack and leaves there
pub data Effect : Type 0 where
  -- pops operands and pushes results
  Takes : (operands results : List ValType) → Effect
  -- pops operands and does not go on
  Stops : (operands : List ValType) → Effect
  -- pops any operand
  Drops : Effect
  -- pops an i32 and two operands of one type, and pushes one of them
  Selects : Effect

-- ---- what immediates name

-- a local: the parameters come first, then the groups (3.4.1)
abbrev pub type_in_groups : List LocalGroup → ℕ → Option ValType
type_in_groups [] x = None
type_in_groups (g ∷ gs) x = if nat_lt x g.count then Some g.ty else type_in_groups gs (x - g.count)

abbrev pub local_type : List ValType → List LocalGroup → ℕ → Option ValType
local_type params groups x =
    if nat_lt x (length params) then slice_get params x else type_in_groups groups (x - length params)

abbrev pub or_fault : {X : Type 0} → FaultKind → Option X → Result X FaultKind
or_fault kind None = Err kind
or_fault kind (Some x) = Ok x

abbrev pub same_types : List ValType → List ValType → Bool
same_types [] [] = true
same_types (t ∷ ts) (u ∷ us) = if same t u then same_types ts us else false
same_types _ _ = false

-- each label is known
abbrev pub all_known : List (List ValType) → List ℕ → Bool
all_known labels [] = true
all_known labels (l ∷ ls) = if is_some (slice_get labels l) then all_known labels ls else false

abbrev pub has_types : List ValType → Option (List ValType) → Bool
has_types ts None = false
has_types ts (Some us) = same_types us ts

-- each label has these types
abbrev pub all_same : List (List ValType) → List ValType → List ℕ → Bool
all_same labels ts [] = true
all_same labels ts (l ∷ ls) = if has_types ts (slice_get labels l) then all_same labels ts ls else false

-- ---- control instructions (3.3.5)

abbrev pub branch_effect : Option (List ValType) → Result Effect FaultKind
branch_effect label = or_fault UnknownLabel label >>= λ ts. Ok (Stops ts)

abbrev pub branch_if_effect : Option (List ValType) → Result Effect FaultKind
branch_if_effect label = or_fault UnknownLabel label >>= λ ts. Ok (Takes (ts ++ I32 ∷ []) ts)

abbrev pub default_effect : List (List ValType) → List ℕ → Option (List ValType) → Result Effect FaultKind
default_effect labels ls None = Err UnknownLabel
default_effect labels ls (Some ts) = if all_same labels ts ls then Ok (Stops (ts ++ I32 ∷ [])) else Err LabelTypes

-- unknown labels come first, then labels whose types differ from the default's
abbrev pub table_effect : List (List ValType) → List ℕ → ℕ → Result Effect FaultKind
table_effect labels ls other =
    if all_known labels ls then default_effect labels ls (slice_get labels other) else Err UnknownLabel

abbrev pub call_effect : Found → Result Effect FaultKind
call_effect (FuncIs t) = Ok (Takes t.params t.results)
call_effect FuncOfNoType = Err UnknownType
call_effect _ = Err UnknownFunc

abbrev pub indirect_effect : Found → Found → Result Effect FaultKind
indirect_effect (TypeIs t) IsPresent = Ok (Takes (t.params ++ I32 ∷ []) t.results)
indirect_effect (TypeIs t) _ = Err UnknownTable
indirect_effect _ _ = Err UnknownType

-- ---- variables (3.3.3)

abbrev pub local_get : Option ValType → Result Effect FaultKind
local_get local = or_fault UnknownLocal local >>= λ t. Ok (Takes [] (t ∷ []))

abbrev pub local_set : Option ValType → Result Effect FaultKind
local_set local = or_fault UnknownLocal local >>= λ t. Ok (Takes (t ∷ []) [])

abbrev pub local_tee : Option ValType → Result Effect FaultKind
local_tee local = or_fault UnknownLocal local >>= λ t. Ok (Takes (t ∷ []) (t ∷ []))

abbrev pub global_get : Found → Result Effect FaultKind
global_get (GlobalIs g) = Ok (Takes [] (g.val ∷ []))
global_get _ = Err UnknownGlobal

abbrev pub global_set : Found → Result Effect FaultKind
global_set (GlobalIs g) = if g.mutable then Ok (Takes (g.val ∷ []) []) else Err GlobalImmutable
global_set _ = Err UnknownGlobal

-- ---- memory (3.3.4)

abbrev pub with_memory : Found → Effect → Result Effect FaultKind
with_memory IsPresent e = Ok e
with_memory _ e = Err UnknownMemory

-- an alignment is the exponent of a power of two that is not above the width
abbrev pub aligned : MemoryOp → ℕ → Effect → Result Effect FaultKind
aligned op align e = if nat_lt (memory_width op) (2 ^ align) then Err Alignment else Ok e

-- a store takes an address and a value, a load an address
abbrev pub access_types : Bool → ValType → Effect
access_types true t = Takes (I32 ∷ t ∷ []) []
access_types false t = Takes (I32 ∷ []) (t ∷ [])

abbrev pub access_effect : Found → MemoryOp → ℕ → Result Effect FaultKind
access_effect memory op align =
    with_memory memory (access_types (memory_stores op) (memory_type op)) >>= aligned op align

-- ---- numeric instructions (3.3.1), by the table of their types

abbrev pub numeric_effect : NumericType → Effect
numeric_effect (Unary a r) = Takes (a ∷ []) (r ∷ [])
numeric_effect (Binary a r) = Takes (a ∷ a ∷ []) (r ∷ [])

-- ---- the table

-- The effect of an instruction, or the fault of its immediates, where references find A, locals have these types, the function
-- has these results, and the labels these types, the innermost first.
abbrev pub effect_of : (Ref → Found) → (ℕ → Option ValType) → List ValType → List (List ValType) → Plain → Result Effect FaultKind
effect_of A locals final labels plain.Unreachable = Ok (Stops [])
effect_of A locals final labels plain.Nop = Ok (Takes [] [])
effect_of A locals final labels (plain.Br label) = branch_effect (slice_get labels label)
effect_of A locals final labels (plain.BrIf label) = branch_if_effect (slice_get labels label)
effect_of A locals final labels (plain.BrTable ls other) = table_effect labels ls other
effect_of A locals final labels plain.Return = Ok (Stops final)
effect_of A locals final labels (plain.Call x) = call_effect (A (refs.Func x))
effect_of A locals final labels (plain.CallIndirect x) = indirect_effect (A (refs.Ty x)) (A refs.Table)
effect_of A locals final labels plain.Drop = Ok Drops
effect_of A locals final labels plain.Select = Ok Selects
effect_of A locals final labels (plain.LocalGet x) = local_get (locals x)
effect_of A locals final labels (plain.LocalSet x) = local_set (locals x)
effect_of A locals final labels (plain.LocalTee x) = local_tee (locals x)
effect_of A locals final labels (plain.GlobalGet x) = global_get (A (refs.Global x))
effect_of A locals final labels (plain.GlobalSet x) = global_set (A (refs.Global x))
effect_of A locals final labels (plain.Access op align offset) = access_effect (A refs.Memory) op align
effect_of A locals final labels plain.MemorySize = with_memory (A refs.Memory) (Takes [] (I32 ∷ []))
effect_of A locals final labels plain.MemoryGrow = with_memory (A refs.Memory) (Takes (I32 ∷ []) (I32 ∷ []))
effect_of A locals final labels (plain.I32Const z) = Ok (Takes [] (I32 ∷ []))
effect_of A locals final labels (plain.I64Const z) = Ok (Takes [] (I64 ∷ []))
effect_of A locals final labels (plain.F32Const word) = Ok (Takes [] (F32 ∷ []))
effect_of A locals final labels (plain.F64Const word) = Ok (Takes [] (F64 ∷ []))
effect_of A locals final labels (plain.Numeric op) = Ok (numeric_effect (numeric_type op))

-- ---- block types (2.3.2; those of an index belong to the other profile): parameters and results, none where the type is unknown

abbrev pub params_found : Found → List ValType
params_found (TypeIs t) = t.params
params_found _ = []

abbrev pub results_found : Found → List ValType
results_found (TypeIs t) = t.results
results_found _ = []

abbrev pub params_of : (Ref → Found) → BlockType → List ValType
params_of A Empty = []
params_of A (Value t) = []
params_of A (Index x) = params_found (A (refs.Ty x))

abbrev pub results_of : (Ref → Found) → BlockType → List ValType
results_of A Empty = []
results_of A (Value t) = t ∷ []
results_of A (Index x) = results_found (A (refs.Ty x))

abbrev pub known_found : Found → Result (Unit {0}) FaultKind
known_found (TypeIs t) = Ok tt
known_found _ = Err UnknownType

-- a block type of an index is that of a type
abbrev pub known : (Ref → Found) → BlockType → Result (Unit {0}) FaultKind
known A (Index x) = known_found (A (refs.Ty x))
known A _ = Ok tt
