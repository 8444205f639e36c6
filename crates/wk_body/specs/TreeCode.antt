-- A tree is stored as its tokens, and a token as numbers.
use Rattle.std.specs.Prelude.{◌≡◌, ℕ, zero, suc, ℤ, pos, Option, Some, None, List, [], ◌∷◌}
use Rattle.std.proofs.Common.{refl, ap}
use Rattle.std.specs.Coded.{Coded, code_by, coded×, coded_ℕ, coded_ℤ, coded_list}
use Rattle.wk_body.specs.declared.types.ValType.{ValType}
use Rattle.wk_body.specs.declared.types.ValType.TheVariants.{I32, I64, F32, F64}
use Rattle.wk_body.specs.declared.types.BlockType.{BlockType}
use Rattle.wk_body.specs.declared.types.BlockType.TheVariants.{Empty, Value}
use Rattle.wk_body.specs.declared.types.BlockType.TheVariants as types
use Rattle.wk_body.specs.declared.types.BlockKind.TheVariants as kinds
use Rattle.wk_body.specs.ValTypes.{valtype_byte, valtype_of}
use Rattle.wk_body.specs.Instructions.{Plain, Unreachable, Nop, Br, BrIf, BrTable, Return, Call, CallIndirect, Drop, Select, LocalGet, LocalSet, LocalTee}
use Rattle.wk_body.specs.Instructions.{GlobalGet, GlobalSet, Access, MemorySize, MemoryGrow, I32Const, I64Const, F32Const, F64Const, Numeric, plain_opcode}
use Rattle.wk_body.specs.Instructions.{Immediates, Nothing, Reserved, Index, IndexReserved, Labels, Memarg, Signed, Word, immediates, Form, Alone, WithReserved}
use Rattle.wk_body.specs.Instructions.{WithIndex, WithIndexReserved, WithLabels, WithMemarg, WithSigned, WithWord, any_form}
use Rattle.wk_body.specs.OpcodeLaws.{any_form-numeric, any_form-memory}
use Rattle.wk_body.specs.Tree.{Instrs, Tok, Simple, Open, OpenIf, Otherwise, Close, tokens_of, tree_of}
use Rattle.wk_body.specs.TreeLaws.{tree_of-flatten}

abbrev pub head_or : List ℕ → ℕ
head_or [] = 0
head_or (x ∷ xs) = x

abbrev pub tail_or : List ℕ → List ℕ
tail_or [] = []
tail_or (x ∷ xs) = xs

-- ---- an instruction that holds no others: its opcode, an integer and numbers

abbrev pub PlainCells : Type 0
PlainCells = ℕ × (ℤ × List ℕ)

abbrev pub integer_of : Immediates → ℤ
integer_of (Signed bits z) = z
integer_of _ = pos 0

abbrev pub numbers_of : Immediates → List ℕ
numbers_of Nothing = []
numbers_of Reserved = []
numbers_of (Index x) = x ∷ []
numbers_of (IndexReserved x) = x ∷ []
numbers_of (Labels labels other) = other ∷ labels
numbers_of (Memarg align offset) = align ∷ offset ∷ []
numbers_of (Signed bits z) = []
numbers_of (Word size word) = word ∷ []

abbrev pub plain_cells : Plain → PlainCells
plain_cells p = (plain_opcode p, (integer_of (immediates p), numbers_of (immediates p)))

abbrev pub made_of : Option Form → ℤ → List ℕ → Plain
made_of None z ns = Nop
made_of (Some (Alone p)) z ns = p
made_of (Some (WithReserved p)) z ns = p
made_of (Some (WithIndex make)) z ns = make (head_or ns)
made_of (Some (WithIndexReserved make)) z ns = make (head_or ns)
made_of (Some (WithLabels make)) z ns = make (tail_or ns) (head_or ns)
made_of (Some (WithMemarg make)) z ns = make (head_or ns) (head_or (tail_or ns))
made_of (Some (WithSigned bits make)) z ns = make z
made_of (Some (WithWord size make)) z ns = make (head_or ns)

abbrev pub plain_back : PlainCells → Plain
plain_back c = made_of (any_form c.0) c.1.0 c.1.1

pub plain_same : (p : Plain) → plain_back (plain_cells p) ≡ p
plain_same Unreachable = refl
plain_same Nop = refl
plain_same (Br label) = refl
plain_same (BrIf label) = refl
plain_same (BrTable labels other) = refl
plain_same Return = refl
plain_same (Call x) = refl
plain_same (CallIndirect x) = refl
plain_same Drop = refl
plain_same Select = refl
plain_same (LocalGet x) = refl
plain_same (LocalSet x) = refl
plain_same (LocalTee x) = refl
plain_same (GlobalGet x) = refl
plain_same (GlobalSet x) = refl
plain_same (Access op align offset) = ap (λ (f : Option Form). made_of f (pos 0) (align ∷ offset ∷ [])) (any_form-memory op)
plain_same MemorySize = refl
plain_same MemoryGrow = refl
plain_same (I32Const z) = refl
plain_same (I64Const z) = refl
plain_same (F32Const word) = refl
plain_same (F64Const word) = refl
plain_same (Numeric op) = ap (λ (f : Option Form). made_of f (pos 0) []) (any_form-numeric op)

-- ---- block types

abbrev pub type_cells : BlockType → List ℕ
type_cells Empty = []
type_cells (Value t) = 0 ∷ valtype_byte t ∷ []
type_cells (types.Index x) = 1 ∷ x ∷ []

abbrev pub value_or : Option ValType → ValType
value_or None = I32
value_or (Some t) = t

abbrev pub type_back : List ℕ → BlockType
type_back [] = Empty
type_back (n ∷ []) = Empty
type_back (zero ∷ b ∷ r) = Value (value_or (valtype_of b))
type_back (suc n ∷ x ∷ r) = types.Index x

pub type_same : (t : BlockType) → type_back (type_cells t) ≡ t
type_same Empty = refl
type_same (Value I32) = refl
type_same (Value I64) = refl
type_same (Value F32) = refl
type_same (Value F64) = refl
type_same (types.Index x) = refl

-- ---- tokens

abbrev pub Cells : Type 0
Cells = ℕ × PlainCells

abbrev pub cells : Tok → Cells
cells (Simple p) = (0, plain_cells p)
cells (Open kinds.Block ty skip) = (1, (skip, (pos 0, type_cells ty)))
cells (Open kinds.Loop ty skip) = (2, (skip, (pos 0, type_cells ty)))
cells (OpenIf ty skip) = (3, (skip, (pos 0, type_cells ty)))
cells (Otherwise skip) = (4, (skip, (pos 0, [])))
cells Close = (5, (0, (pos 0, [])))

abbrev pub cells_back : Cells → Tok
cells_back (zero, c) = Simple (plain_back c)
cells_back (suc zero, c) = Open kinds.Block (type_back c.1.1) c.0
cells_back (suc (suc zero), c) = Open kinds.Loop (type_back c.1.1) c.0
cells_back (suc (suc (suc zero)), c) = OpenIf (type_back c.1.1) c.0
cells_back (suc (suc (suc (suc zero))), c) = Otherwise c.0
cells_back (suc (suc (suc (suc (suc n)))), c) = Close

pub cells_same : (t : Tok) → cells_back (cells t) ≡ t
cells_same (Simple p) = ap Simple (plain_same p)
cells_same (Open kinds.Block ty skip) = ap (λ (b : BlockType). Open kinds.Block b skip) (type_same ty)
cells_same (Open kinds.Loop ty skip) = ap (λ (b : BlockType). Open kinds.Loop b skip) (type_same ty)
cells_same (OpenIf ty skip) = ap (λ (b : BlockType). OpenIf b skip) (type_same ty)
cells_same (Otherwise skip) = refl
cells_same Close = refl

abbrev pub coded_tok : Coded Tok
coded_tok = code_by Cells (coded× coded_ℕ (coded× coded_ℕ (coded× coded_ℤ (coded_list coded_ℕ)))) cells cells_back cells_same

abbrev pub coded_instrs : Coded Instrs
coded_instrs = code_by (List Tok) (coded_list coded_tok) tokens_of tree_of tree_of-flatten
