-- A fault and its place, in numbers, and the number of a version.
use Rattle.std.specs.Prelude.{◌≡◌, ◌≢◌, ℕ, ◌+◌, ◌*◌, Option, Some, None, List, [], ◌∷◌, Result, Ok, Err, IfSome, MatchOption}
use Rattle.wk_bytes.specs.declared.fault.ReadFault.{ReadFault}
use Rattle.wk_bytes.specs.declared.fault.ReadKind.{ReadKind}
use Rattle.wk_bytes.specs.declared.fault.ReadKind.TheVariants as reads
use Rattle.wk_body.specs.declared.types.Profile.{Profile}
use Rattle.wk_module.specs.declared.types.Parts.{Parts}
use Rattle.wk_typing.specs.declared.fault.Fault.{Fault}
use Rattle.wk_typing.specs.declared.fault.FaultKind.{FaultKind}
use Rattle.wk_typing.specs.declared.fault.FaultKind.TheVariants as flaws
use Rattle.wk_typing.specs.declared.fault.Verdict.{Verdict}
use Rattle.wk_typing.specs.declared.fault.Verdict.TheVariants.{Valid, Invalid}
use Rattle.wk_check.specs.Verdict.{module_verdict}
use Rattle.wk_place.specs.declared.place.Located.{Located}
use Rattle.wk_place.specs.Places.{func_index, IsInBodyOf, IsInNoBody, IsNowhere, LiesThere}
use Rattle.wk_ffi.specs.declared.numbers.FaultNumbers.{FaultNumbers}

-- ---- single numbers

-- of V1 to V21
abbrev pub verdict_number : FaultKind → ℕ
verdict_number flaws.TypeArity = 1
verdict_number flaws.UnknownType = 2
verdict_number flaws.LimitsOrder = 3
verdict_number flaws.MemoryRange = 4
verdict_number flaws.TooManyTables = 5
verdict_number flaws.TooManyMemories = 6
verdict_number flaws.UnknownFunc = 7
verdict_number flaws.UnknownTable = 8
verdict_number flaws.UnknownMemory = 9
verdict_number flaws.UnknownGlobal = 10
verdict_number flaws.UnknownLocal = 11
verdict_number flaws.UnknownLabel = 12
verdict_number flaws.StackUnderflow = 13
verdict_number flaws.TypeMismatch = 14
verdict_number flaws.StackHeight = 15
verdict_number flaws.LabelTypes = 16
verdict_number flaws.GlobalImmutable = 17
verdict_number flaws.Alignment = 18
verdict_number flaws.ConstantExpected = 19
verdict_number flaws.DuplicateExport = 20
verdict_number flaws.StartType = 21

-- of R1 to R17, where the last is want of memory, and no fault of bytes
abbrev pub read_number : ReadKind → ℕ
read_number reads.BadMagic = 1
read_number reads.BadVersion = 2
read_number reads.UnexpectedEnd = 3
read_number reads.IntTooLong = 4
read_number reads.IntTooLarge = 5
read_number reads.UnknownSection = 6
read_number reads.SectionOrder = 7
read_number reads.SectionSize = 8
read_number reads.BadUtf8 = 9
read_number reads.BadByte = 10
read_number reads.UnknownOpcode = 11
read_number reads.TooManyLocals = 12
read_number reads.FuncCodeCount = 13
read_number reads.BodySize = 14
read_number reads.TooDeep = 15
read_number reads.LongInput = 16
read_number reads.Memory = 17

-- WASMKIT_NONE
abbrev pub no_number : ℕ
no_number = 4294967295

abbrev pub or_none : Option ℕ → ℕ
or_none None = no_number
or_none (Some n) = n

-- the offset of a place, where the bytes have it
abbrev pub offset_in : Option Located → Option ℕ
offset_in None = None
offset_in (Some l) = Some l.offset

-- the function of a place, where it is in a body
abbrev pub func_in : Option Located → Option ℕ
func_in None = None
func_in (Some l) = l.func

-- ---- the six numbers

-- of a valid module
abbrev pub valid_numbers : FaultNumbers
valid_numbers = record { fault = 0; section = no_number; item = no_number; token = no_number; offset = no_number; function = no_number }

-- of an invalid module, whose fault has this place in the bytes
abbrev pub invalid_numbers : Fault → Option Located → FaultNumbers
invalid_numbers f found =
    record {
      fault = verdict_number f.kind;
      section = f.place.section;
      item = f.place.item;
      token = or_none f.place.token;
      offset = or_none (offset_in found);
      function = or_none (func_in found);
    }

-- of bytes that are no module, whose fault is in the body of that function, or in none
abbrev pub malformed_numbers : ReadFault → Option ℕ → FaultNumbers
malformed_numbers e func =
    record {
      fault = read_number e.kind;
      section = no_number;
      item = no_number;
      token = no_number;
      offset = e.at;
      function = or_none func;
    }

-- in the order of `struct wasmkit_fault`
abbrev pub in_order : FaultNumbers → List ℕ
in_order n = n.fault ∷ n.section ∷ n.item ∷ n.token ∷ n.offset ∷ n.function ∷ []

-- ---- the numbers of bytes

-- of the fault of a module that the bytes spell: where its place lies in them, with the index of the function
pub record AreOfFault (profile : Profile) (b : List ℕ) (m : Parts) (f : Fault) (n : FaultNumbers) : Type 0 where
  pub found : Option Located
  pub there : MatchOption found (IsNowhere profile b f.place) (LiesThere profile b f.place)
  pub some : found ≢ None
  pub index : IfSome found (λ l. l.func ≡ func_index m f.place)
  pub are : n ≡ invalid_numbers f found

-- of its verdict
abbrev pub AreOfVerdict : Profile → List ℕ → Parts → Verdict → FaultNumbers → Type 0
AreOfVerdict profile b m Valid n = n ≡ valid_numbers
AreOfVerdict profile b m (Invalid f) n = AreOfFault profile b m f n

-- of what reading gives: the verdict of the module, or a fault, with the function in whose body it is
abbrev pub AreOfRead : Profile → List ℕ → Result Parts ReadFault → FaultNumbers → Type 0
AreOfRead profile b (Ok m) n = AreOfVerdict profile b m (module_verdict m) n
AreOfRead profile b (Err e) n = (func : Option ℕ) × MatchOption func (IsInNoBody profile b e) (IsInBodyOf profile b e) × (n ≡ malformed_numbers e func)

-- ---- the number of a version

abbrev pub version_number : ℕ → ℕ → ℕ → ℕ
version_number major minor patch = major * 1000000 + (minor * 1000 + patch)
