-- How many bytes a token has, where each of its integers and its type has one, by the kind of its immediates.
use Rattle.std.specs.Prelude.{ℕ, ◌<◌, ◌==◌, if◌then◌else◌, Option, Some}
use Rattle.wk_body.specs.declared.types.Profile.TheVariants.{Core, Extended}
use Rattle.wk_body.specs.declared.immediate_kind.ImmediateKind.{ImmediateKind}
use Rattle.wk_body.specs.declared.immediate_kind.ImmediateKind.TheVariants as imms
use Rattle.wk_body.specs.Instructions.{form_of}
use Rattle.wk_body.specs.ImmediateKinds.{imm_kind_in}

-- ---- where tokens stay as they are

-- how many bytes an instruction has, with its opcode, where each of its integers has one; none that has anything else behind its opcode
abbrev pub plain_len : Option ImmediateKind → ℕ
plain_len (Some imms.Nothing) = 1
plain_len (Some imms.Index) = 2
plain_len (Some imms.Signed32) = 2
plain_len (Some imms.Signed64) = 2
plain_len (Some imms.Memarg) = 3
plain_len _ = 0

-- the same of a token: an end, or what opens a block, or an instruction of 1.0 that is no nop
abbrev pub min_len : ℕ → ℕ
min_len x =
    if x == 0x0B then 1
    else if x == 0x01 then 0
    else if x == 0x02 then 2
    else if x == 0x03 then 2
    else if x == 0x04 then 2
    else plain_len (imm_kind_in (form_of Core x))

-- there is such a token of that many bytes, where these bytes stand behind its opcode: an integer of one byte is below 128
abbrev pub IsMinimal : ℕ → ℕ → ℕ → Type 0
IsMinimal len x y = (0 < len) × (1 < len → x < 128) × (2 < len → y < 128)

-- ---- where references move

-- How many bytes an instruction has, with its opcode, where each of its integers has one. A reserved byte counts as one. It is 0 for
-- what has labels or a word behind its opcode.
abbrev pub integers_len : Option ImmediateKind → ℕ
integers_len (Some imms.Reserved) = 2
integers_len (Some imms.IndexReserved) = 3
integers_len kind = plain_len kind

-- The same of a token, where an opener's type has one byte too, and 0 for what may move.
abbrev pub stride : ℕ → ℕ
stride x =
    if x == 0x02 then 2
    else if x == 0x03 then 2
    else if x == 0x04 then 2
    else if x == 0x05 then 1
    else if x == 0x0B then 1
    else if x == 0x10 then 0
    else if x == 0x23 then 0
    else if x == 0x24 then 0
    else integers_len (imm_kind_in (form_of Extended x))
