-- The texts of read faults.
use Rattle.std.specs.Prelude.{ℕ, List, ◌++◌, codes}
use Rattle.wk_bytes.specs.declared.fault.ReadKind.{ReadKind}
use Rattle.wk_bytes.specs.declared.fault.ReadKind.TheVariants.{BadMagic, BadVersion, UnexpectedEnd, IntTooLong, IntTooLarge, UnknownSection, SectionOrder}
use Rattle.wk_bytes.specs.declared.fault.ReadKind.TheVariants.{SectionSize, BadUtf8, BadByte, UnknownOpcode, TooManyLocals, FuncCodeCount, BodySize, TooDeep}
use Rattle.wk_bytes.specs.declared.fault.ReadKind.TheVariants.{LongInput, Memory}
use Rattle.wk_bytes.specs.declared.fault.ReadFault.{ReadFault}
use Rattle.wk_bytes.specs.HexDigits.{hex_digits}

-- the number and the name of a kind
abbrev pub read_kind_text : ReadKind → List ℕ
read_kind_text BadMagic = codes "R1 BadMagic"
read_kind_text BadVersion = codes "R2 BadVersion"
read_kind_text UnexpectedEnd = codes "R3 UnexpectedEnd"
read_kind_text IntTooLong = codes "R4 IntTooLong"
read_kind_text IntTooLarge = codes "R5 IntTooLarge"
read_kind_text UnknownSection = codes "R6 UnknownSection"
read_kind_text SectionOrder = codes "R7 SectionOrder"
read_kind_text SectionSize = codes "R8 SectionSize"
read_kind_text BadUtf8 = codes "R9 BadUtf8"
read_kind_text BadByte = codes "R10 BadByte"
read_kind_text UnknownOpcode = codes "R11 UnknownOpcode"
read_kind_text TooManyLocals = codes "R12 TooManyLocals"
read_kind_text FuncCodeCount = codes "R13 FuncCodeCount"
read_kind_text BodySize = codes "R14 BodySize"
read_kind_text TooDeep = codes "R15 TooDeep"
read_kind_text LongInput = codes "R16 LongInput"
read_kind_text Memory = codes "R17 Memory"

-- an offset, as `0x` and eight digits
abbrev pub offset_text : ℕ → List ℕ
offset_text at = codes "0x" ++ hex_digits 8 at

-- what is wrong, and where
abbrev pub read_fault_text : ReadFault → List ℕ
read_fault_text f = read_kind_text f.kind ++ (codes " at " ++ offset_text f.at)
