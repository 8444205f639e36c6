-- A token in two parts: its opcode, and what stands behind it.
use Rattle.std.specs.Prelude.{ℕ, ◌<◌, ◌^◌, List, length}
use Rattle.wk_body.specs.declared.types.BlockType.{BlockType}
use Rattle.wk_body.specs.declared.operands.Operands.{Operands}
use Rattle.wk_body.specs.declared.operands.Operands.TheVariants as kept
use Rattle.wk_body.specs.Instructions.{Immediates, Nothing, Reserved, Index, IndexReserved, Labels, Memarg, Signed, Word, immediates, plain_opcode}
use Rattle.wk_body.specs.Tree.{Tok, Simple, Open, OpenIf, Otherwise, Close}
use Rattle.wk_body.specs.Spelling.{kind_byte}
use Rattle.wk_body.specs.Written.{immediate_bytes, type_bytes}

-- the immediates of an instruction, or the type of a block
pub data OperandsOf : Type 0 where
  Immediate : (i : Immediates) → OperandsOf
  Opening : (ty : BlockType) → OperandsOf

abbrev pub tok_opcode : Tok → ℕ
tok_opcode (Simple p) = plain_opcode p
tok_opcode (Open kind ty skip) = kind_byte kind
tok_opcode (OpenIf ty skip) = 0x04
tok_opcode (Otherwise skip) = 0x05
tok_opcode Close = 0x0B

abbrev pub tok_operands : Tok → OperandsOf
tok_operands (Simple p) = Immediate (immediates p)
tok_operands (Open kind ty skip) = Opening ty
tok_operands (OpenIf ty skip) = Opening ty
tok_operands (Otherwise skip) = Immediate Nothing
tok_operands Close = Immediate Nothing

abbrev pub operand_bytes : OperandsOf → List ℕ
operand_bytes (Immediate i) = immediate_bytes i
operand_bytes (Opening ty) = type_bytes ty

-- what the code's operands stand for: integers have 32 or 64 bits, words 4 or 8 bytes
abbrev pub operands_of : Operands → OperandsOf
operands_of kept.Nothing = Immediate Nothing
operands_of kept.Reserved = Immediate Reserved
operands_of (kept.Index x) = Immediate (Index x)
operands_of (kept.IndexReserved x) = Immediate (IndexReserved x)
operands_of (kept.Labels labels other) = Immediate (Labels labels.now other)
operands_of (kept.Memarg align offset) = Immediate (Memarg align offset)
operands_of (kept.Signed32 z) = Immediate (Signed 32 z)
operands_of (kept.Signed64 z) = Immediate (Signed 64 z)
operands_of (kept.Word32 word) = Immediate (Word 4 word)
operands_of (kept.Word64 word) = Immediate (Word 8 word)
operands_of (kept.Opening ty) = Opening ty

-- labels are fewer than their count can say
abbrev pub AreCounted : Operands → Type 0
AreCounted (kept.Labels labels other) = length labels.now < 2 ^ 32
AreCounted _ = Unit {0}
