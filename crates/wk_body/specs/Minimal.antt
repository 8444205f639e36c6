-- Tokens that are as short as they may be, and whose integers do not have a byte each (`TokenLen` has those that do): integers of two
-- bytes, words, a `br_table` of labels of a byte each, openers of blocks whose type has one byte. And open blocks as the bits of a number.
use Rattle.std.specs.Prelude.{◌≡◌, ℕ, ◌+◌, ◌*◌, ◌/◌, ◌<◌, ◌≤◌, ◌⊎◌, ◌==◌, if◌then◌else◌, Bool, true, false, List, [], ◌∷◌, Option, Some, length, get_or}
use Rattle.wk_body.specs.declared.types.Profile.TheVariants.{Core}
use Rattle.wk_body.specs.declared.types.ValType.{ValType}
use Rattle.wk_body.specs.declared.immediate_kind.ImmediateKind.{ImmediateKind}
use Rattle.wk_body.specs.declared.immediate_kind.ImmediateKind.TheVariants as imms
use Rattle.wk_body.specs.ValTypes.{valtype_byte}
use Rattle.wk_body.specs.Instructions.{form_of}
use Rattle.wk_body.specs.ImmediateKinds.{imm_kind_in}

-- an unsigned integer of two bytes is as short as it may be
abbrev pub IsWideIndex : ℕ → ℕ → Type 0
IsWideIndex x y = (128 ≤ x) × (x < 256) × (0 < y) × (y < 128)

-- a signed one is: its last byte says more than the sign of the one before
abbrev pub IsWideNumber : ℕ → ℕ → Type 0
IsWideNumber x y = (128 ≤ x) × (x < 256) × (y < 128) × (y ≡ 0 → 192 ≤ x) × (y ≡ 127 → x < 192)

-- an instruction whose integers do not have a byte each has that many bytes, and each of its integers is as short as it may be, where these bytes
-- stand behind its opcode
abbrev pub IsWide : Option ImmediateKind → ℕ → ℕ → ℕ → ℕ → Type 0
IsWide (Some imms.Reserved) len x y z = (len ≡ 2) × (x ≡ 0)
IsWide (Some imms.Index) len x y z = (len ≡ 3) × IsWideIndex x y
IsWide (Some imms.IndexReserved) len x y z = (len ≡ 3) × (x < 128) × (y ≡ 0)
IsWide (Some imms.Memarg) len x y z = (len ≡ 4) × (x < 128) × IsWideIndex y z
IsWide (Some imms.Signed32) len x y z = (len ≡ 3) × IsWideNumber x y
IsWide (Some imms.Signed64) len x y z = (len ≡ 3) × IsWideNumber x y
IsWide (Some imms.Word32) len x y z = len ≡ 5
IsWide (Some imms.Word64) len x y z = len ≡ 9
IsWide _ len x y z = ⊥

-- a `br_table` at an offset has that many bytes, and each of its integers has one
abbrev pub IsShortTable : List ℕ → ℕ → ℕ → Type 0
IsShortTable bytes at len = (len ≡ get_or bytes (at + 1) 0 + 3) × (at + len ≤ length bytes) × ((i : ℕ) → at < i → i < at + len → get_or bytes i 0 < 128)

-- an instruction at an offset is such a `br_table`, or one of those for which the bytes behind its opcode tell its length, as above
abbrev pub IsOther : List ℕ → ℕ → ℕ → Type 0
IsOther bytes at len =
    ((get_or bytes at 0 ≡ 0x0E) × IsShortTable bytes at len)
    ⊎ IsWide (imm_kind_in (form_of Core (get_or bytes at 0))) len (get_or bytes (at + 1) 0) (get_or bytes (at + 2) 0) (get_or bytes (at + 3) 0)

-- a block type of one byte: none, or a value type
abbrev pub IsShortType : ℕ → Type 0
IsShortType x = (x ≡ 0x40) ⊎ ((t : ValType) × (x ≡ valtype_byte t))

-- ---- open blocks as the bits of a number

abbrev pub bit_of : Bool → ℕ
bit_of false = 0
bit_of true = 1

-- of each open block, the innermost lowest, whether an else may still come, and a bit that is set above all
abbrev pub number_of : List Bool → ℕ
number_of [] = 1
number_of (k ∷ ks) = 2 * number_of ks + bit_of k

-- that number behind a token
abbrev pub blocks_after : ℕ → ℕ → ℕ
blocks_after x blocks =
    if x == 0x0B then blocks / 2
    else if x == 0x02 then 2 * blocks
    else if x == 0x03 then 2 * blocks
    else if x == 0x04 then 2 * blocks + 1
    else blocks
