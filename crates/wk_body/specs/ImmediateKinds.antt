-- What stands behind an opcode, without what it makes.
use Rattle.std.specs.Prelude.{◌==◌, if◌then◌else◌, Option, Some, None}
use Rattle.wk_body.specs.declared.immediate_kind.ImmediateKind.{ImmediateKind}
use Rattle.wk_body.specs.declared.immediate_kind.ImmediateKind.TheVariants as imms
use Rattle.wk_body.specs.Instructions.{Form, Alone, WithReserved, WithIndex, WithIndexReserved, WithLabels, WithMemarg, WithSigned, WithWord}

-- integers and words have 32 or 64 bits
abbrev pub imm_kind_of : Form → Option ImmediateKind
imm_kind_of (Alone p) = Some imms.Nothing
imm_kind_of (WithReserved p) = Some imms.Reserved
imm_kind_of (WithIndex make) = Some imms.Index
imm_kind_of (WithIndexReserved make) = Some imms.IndexReserved
imm_kind_of (WithLabels make) = Some imms.Labels
imm_kind_of (WithMemarg make) = Some imms.Memarg
imm_kind_of (WithSigned bits make) = if bits == 32 then Some imms.Signed32 else if bits == 64 then Some imms.Signed64 else None
imm_kind_of (WithWord size make) = if size == 4 then Some imms.Word32 else if size == 8 then Some imms.Word64 else None

abbrev pub imm_kind_in : Option Form → Option ImmediateKind
imm_kind_in None = None
imm_kind_in (Some f) = imm_kind_of f
