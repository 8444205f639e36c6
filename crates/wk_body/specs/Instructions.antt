-- Instructions that hold no others (2.4, 5.4): what each is, its opcode, what stands behind it, and its name.
use Rattle.std.specs.Prelude.{ℕ, ℤ, ◌≤◌, nat_lt, nat_le, ◌&&◌, ◌==◌, if◌then◌else◌, Option, Some, None, List, [], ◌∷◌, codes}
use Rattle.wk_body.specs.declared.types.Profile.{Profile}
use Rattle.wk_body.specs.declared.types.Profile.TheVariants.{Core, Extended}
use Rattle.wk_body.specs.declared.memory.MemoryOp.{MemoryOp}
use Rattle.wk_body.specs.declared.numeric.NumericOp.{NumericOp}
use Rattle.wk_body.specs.Numeric.{numeric_opcode, numeric_name, numeric_of}
use Rattle.wk_body.specs.MemoryOps.{memory_opcode, memory_name, memory_of}

-- Labels, indexes, alignments and offsets are below 2 ^ 32. A float constant is its word.
pub data Plain : Type 0 where
  Unreachable : Plain
  Nop : Plain
  Br : (label : ℕ) → Plain
  BrIf : (label : ℕ) → Plain
  BrTable : (labels : List ℕ) (other : ℕ) → Plain
  Return : Plain
  Call : (x : ℕ) → Plain
  CallIndirect : (x : ℕ) → Plain
  Drop : Plain
  Select : Plain
  LocalGet : (x : ℕ) → Plain
  LocalSet : (x : ℕ) → Plain
  LocalTee : (x : ℕ) → Plain
  GlobalGet : (x : ℕ) → Plain
  GlobalSet : (x : ℕ) → Plain
  Access : (op : MemoryOp) (align offset : ℕ) → Plain
  MemorySize : Plain
  MemoryGrow : Plain
  I32Const : (z : ℤ) → Plain
  I64Const : (z : ℤ) → Plain
  F32Const : (word : ℕ) → Plain
  F64Const : (word : ℕ) → Plain
  Numeric : (op : NumericOp) → Plain

-- ---- the table: each instruction's opcode, immediates and name

abbrev pub plain_opcode : Plain → ℕ
plain_opcode Unreachable = 0x00
plain_opcode Nop = 0x01
plain_opcode (Br label) = 0x0C
plain_opcode (BrIf label) = 0x0D
plain_opcode (BrTable labels other) = 0x0E
plain_opcode Return = 0x0F
plain_opcode (Call x) = 0x10
plain_opcode (CallIndirect x) = 0x11
plain_opcode Drop = 0x1A
plain_opcode Select = 0x1B
plain_opcode (LocalGet x) = 0x20
plain_opcode (LocalSet x) = 0x21
plain_opcode (LocalTee x) = 0x22
plain_opcode (GlobalGet x) = 0x23
plain_opcode (GlobalSet x) = 0x24
plain_opcode (Access op align offset) = memory_opcode op
plain_opcode MemorySize = 0x3F
plain_opcode MemoryGrow = 0x40
plain_opcode (I32Const z) = 0x41
plain_opcode (I64Const z) = 0x42
plain_opcode (F32Const word) = 0x43
plain_opcode (F64Const word) = 0x44
plain_opcode (Numeric op) = numeric_opcode op

-- what stands behind an opcode
pub data Immediates : Type 0 where
  -- nothing
  Nothing : Immediates
  -- a byte 00
  Reserved : Immediates
  -- a label or an index
  Index : (x : ℕ) → Immediates
  -- an index and a byte 00
  IndexReserved : (x : ℕ) → Immediates
  -- a vector of labels, and one more
  Labels : (labels : List ℕ) (other : ℕ) → Immediates
  -- an alignment and an offset
  Memarg : (align offset : ℕ) → Immediates
  -- a signed integer of so many bits
  Signed : (bits : ℕ) (z : ℤ) → Immediates
  -- a word of so many bytes
  Word : (size word : ℕ) → Immediates

abbrev pub immediates : Plain → Immediates
immediates Unreachable = Nothing
immediates Nop = Nothing
immediates (Br label) = Index label
immediates (BrIf label) = Index label
immediates (BrTable labels other) = Labels labels other
immediates Return = Nothing
immediates (Call x) = Index x
immediates (CallIndirect x) = IndexReserved x
immediates Drop = Nothing
immediates Select = Nothing
immediates (LocalGet x) = Index x
immediates (LocalSet x) = Index x
immediates (LocalTee x) = Index x
immediates (GlobalGet x) = Index x
immediates (GlobalSet x) = Index x
immediates (Access op align offset) = Memarg align offset
immediates MemorySize = Reserved
immediates MemoryGrow = Reserved
immediates (I32Const z) = Signed 32 z
immediates (I64Const z) = Signed 64 z
immediates (F32Const word) = Word 4 word
immediates (F64Const word) = Word 8 word
immediates (Numeric op) = Nothing

abbrev pub plain_name : Plain → List ℕ
plain_name Unreachable = codes "unreachable"
plain_name Nop = codes "nop"
plain_name (Br label) = codes "br"
plain_name (BrIf label) = codes "br_if"
plain_name (BrTable labels other) = codes "br_table"
plain_name Return = codes "return"
plain_name (Call x) = codes "call"
plain_name (CallIndirect x) = codes "call_indirect"
plain_name Drop = codes "drop"
plain_name Select = codes "select"
plain_name (LocalGet x) = codes "local.get"
plain_name (LocalSet x) = codes "local.set"
plain_name (LocalTee x) = codes "local.tee"
plain_name (GlobalGet x) = codes "global.get"
plain_name (GlobalSet x) = codes "global.set"
plain_name (Access op align offset) = memory_name op
plain_name MemorySize = codes "memory.size"
plain_name MemoryGrow = codes "memory.grow"
plain_name (I32Const z) = codes "i32.const"
plain_name (I64Const z) = codes "i64.const"
plain_name (F32Const word) = codes "f32.const"
plain_name (F64Const word) = codes "f64.const"
plain_name (Numeric op) = numeric_name op

-- ---- the table from its other side: what an opcode begins

-- what stands behind an opcode, and the instruction that both make
pub data Form : Type 0 where
  Alone : (p : Plain) → Form
  WithReserved : (p : Plain) → Form
  WithIndex : (make : ℕ → Plain) → Form
  WithIndexReserved : (make : ℕ → Plain) → Form
  WithLabels : (make : List ℕ → ℕ → Plain) → Form
  WithMemarg : (make : ℕ → ℕ → Plain) → Form
  WithSigned : (bits : ℕ) (make : ℤ → Plain) → Form
  WithWord : (size : ℕ) (make : ℕ → Plain) → Form

-- the instructions that are neither loads nor stores nor numeric
abbrev pub rows : List (ℕ × Form)
rows =
    (0x00, Alone Unreachable)
    ∷ (0x01, Alone Nop)
    ∷ (0x0C, WithIndex Br)
    ∷ (0x0D, WithIndex BrIf)
    ∷ (0x0E, WithLabels BrTable)
    ∷ (0x0F, Alone Return)
    ∷ (0x10, WithIndex Call)
    ∷ (0x11, WithIndexReserved CallIndirect)
    ∷ (0x1A, Alone Drop)
    ∷ (0x1B, Alone Select)
    ∷ (0x20, WithIndex LocalGet)
    ∷ (0x21, WithIndex LocalSet)
    ∷ (0x22, WithIndex LocalTee)
    ∷ (0x23, WithIndex GlobalGet)
    ∷ (0x24, WithIndex GlobalSet)
    ∷ (0x3F, WithReserved MemorySize)
    ∷ (0x40, WithReserved MemoryGrow)
    ∷ (0x41, WithSigned 32 I32Const)
    ∷ (0x42, WithSigned 64 I64Const)
    ∷ (0x43, WithWord 4 F32Const)
    ∷ (0x44, WithWord 8 F64Const)
    ∷ []

abbrev pub find_row : List (ℕ × Form) → ℕ → Option Form
find_row [] x = None
find_row (row ∷ others) x = if x == row.0 then Some row.1 else find_row others x

abbrev pub numeric_form : Option NumericOp → Option Form
numeric_form None = None
numeric_form (Some op) = Some (Alone (Numeric op))

abbrev pub memory_form : Option MemoryOp → Option Form
memory_form None = None
memory_form (Some op) = Some (WithMemarg (Access op))

abbrev pub any_form : ℕ → Option Form
any_form x =
    if nat_le 0x45 x then numeric_form (numeric_of x)
    else (if nat_le 0x28 x && nat_le x 0x3E then memory_form (memory_of x) else find_row rows x)

-- the last opcode of a profile: the instructions of sign extension come behind those of 1.0
abbrev pub last_opcode : Profile → ℕ
last_opcode Core = 0xBF
last_opcode Extended = 0xC4

-- the numeric instruction of an opcode in a profile
abbrev pub numeric_in : Profile → ℕ → Option NumericOp
numeric_in profile x = if nat_lt (last_opcode profile) x then None else numeric_of x

unfoldable pub form_of : Profile → ℕ → Option Form
form_of profile x = if nat_lt (last_opcode profile) x then None else any_form x

-- the instruction belongs to the profile
abbrev pub Allows : Profile → Plain → Type 0
Allows profile p = plain_opcode p ≤ last_opcode profile
