-- The one written form of expressions and bodies: the shortest integers, no else branch that is empty.
use Rattle.std.specs.Prelude.{◌≡◌, ℕ, pos, ◌<◌, ◌≤◌, List, [], ◌∷◌, ◌++◌, length}
use Rattle.byteorder.specs.Endian.{little_bytes}
use Rattle.wk_bytes.specs.Short.{short, short_signed}
use Rattle.wk_body.specs.declared.types.BlockType.{BlockType}
use Rattle.wk_body.specs.declared.types.BlockType.TheVariants.{Empty, Value}
use Rattle.wk_body.specs.declared.types.BlockType.TheVariants as types
use Rattle.wk_body.specs.declared.types.LocalGroup.{LocalGroup}
use Rattle.wk_body.specs.declared.fault.EncodeFault.{EncodeFault}
use Rattle.wk_body.specs.declared.fault.EncodeFault.TheVariants as faults
use Rattle.wk_body.specs.ValTypes.{valtype_byte}
use Rattle.wk_body.specs.Vectors.{written_vector}
use Rattle.wk_body.specs.Instructions.{Plain, plain_opcode, Immediates, Nothing, Reserved, Index, IndexReserved, Labels, Memarg, Signed, Word, immediates}
use Rattle.wk_body.specs.Tree.{Instrs, Finish, One, Block, If, Tok, Simple, Open, OpenIf, Otherwise, Close}
use Rattle.wk_body.specs.Spelling.{kind_byte}
use Rattle.wk_body.specs.Bodies.{BodyOf}

abbrev pub immediate_bytes : Immediates → List ℕ
immediate_bytes Nothing = []
immediate_bytes Reserved = 0x00 ∷ []
immediate_bytes (Index x) = short x
immediate_bytes (IndexReserved x) = short x ++ 0x00 ∷ []
immediate_bytes (Labels labels other) = written_vector short labels ++ short other
immediate_bytes (Memarg align offset) = short align ++ short offset
immediate_bytes (Signed bits z) = short_signed z
immediate_bytes (Word size word) = little_bytes size word

abbrev pub plain_bytes : Plain → List ℕ
plain_bytes p = plain_opcode p ∷ immediate_bytes (immediates p)

abbrev pub type_bytes : BlockType → List ℕ
type_bytes Empty = 0x40 ∷ []
type_bytes (Value t) = valtype_byte t ∷ []
type_bytes (types.Index x) = short_signed (pos x)

-- an else branch, of which nothing is written where it is empty
abbrev pub else_bytes : Instrs → List ℕ → List ℕ
else_bytes Finish bytes = []
else_bytes (One p rest) bytes = 0x05 ∷ bytes
else_bytes (Block kind ty inside rest) bytes = 0x05 ∷ bytes
else_bytes (If ty first second rest) bytes = 0x05 ∷ bytes

abbrev pub enc : Instrs → List ℕ
enc Finish = []
enc (One p rest) = plain_bytes p ++ enc rest
enc (Block kind ty inside rest) = kind_byte kind ∷ (type_bytes ty ++ (enc inside ++ 0x0B ∷ enc rest))
enc (If ty first second rest) = 0x04 ∷ (type_bytes ty ++ (enc first ++ (else_bytes second (enc second) ++ 0x0B ∷ enc rest)))

abbrev pub written_expr : Instrs → List ℕ
written_expr t = enc t ++ 0x0B ∷ []

abbrev pub written_group : LocalGroup → List ℕ
written_group g = short g.count ++ valtype_byte g.ty ∷ []

abbrev pub written_body : BodyOf → List ℕ
written_body b = written_vector written_group b.groups ++ written_expr b.instrs

-- what is written for one token
abbrev pub tok_bytes : Tok → List ℕ
tok_bytes (Simple p) = plain_bytes p
tok_bytes (Open kind ty skip) = kind_byte kind ∷ type_bytes ty
tok_bytes (OpenIf ty skip) = 0x04 ∷ type_bytes ty
tok_bytes (Otherwise skip) = 0x05 ∷ []
tok_bytes Close = 0x0B ∷ []

-- at most as many bytes as a module may have
abbrev pub Fits : List ℕ → Type 0
Fits bytes = length bytes ≤ 2147483647

-- Why there is no written form: it has more bytes than a module may have, or it has not, and memory was wanted.
abbrev pub Unwritten : List ℕ → EncodeFault → Type 0
Unwritten bytes faults.TooLarge = 2147483647 < length bytes
Unwritten bytes faults.Memory = Fits bytes

-- what stood there stands in front of all
abbrev pub StaysInFront : List ℕ → List ℕ → Type 0
StaysInFront old new = (later : List ℕ) × (new ≡ old ++ later)
