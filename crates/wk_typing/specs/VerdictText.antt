-- The texts of verdicts.
use Rattle.std.specs.Prelude.{ℕ, Option, Some, None, List, [], ◌++◌, codes, decimal}
use Rattle.wk_typing.specs.declared.fault.FaultKind.{FaultKind}
use Rattle.wk_typing.specs.declared.fault.FaultKind.TheVariants.{TypeArity, UnknownType, LimitsOrder, MemoryRange, TooManyTables, TooManyMemories, UnknownFunc}
use Rattle.wk_typing.specs.declared.fault.FaultKind.TheVariants.{UnknownTable, UnknownMemory, UnknownGlobal, UnknownLocal, UnknownLabel, StackUnderflow}
use Rattle.wk_typing.specs.declared.fault.FaultKind.TheVariants.{TypeMismatch, StackHeight, LabelTypes, GlobalImmutable, Alignment, ConstantExpected}
use Rattle.wk_typing.specs.declared.fault.FaultKind.TheVariants.{DuplicateExport, StartType}
use Rattle.wk_typing.specs.declared.fault.Place.{Place}
use Rattle.wk_typing.specs.declared.fault.Fault.{Fault}
use Rattle.wk_typing.specs.declared.fault.Verdict.{Verdict}
use Rattle.wk_typing.specs.declared.fault.Verdict.TheVariants.{Valid, Invalid}

-- the number and the name of a kind
abbrev pub fault_kind_text : FaultKind → List ℕ
fault_kind_text TypeArity = codes "V1 TypeArity"
fault_kind_text UnknownType = codes "V2 UnknownType"
fault_kind_text LimitsOrder = codes "V3 LimitsOrder"
fault_kind_text MemoryRange = codes "V4 MemoryRange"
fault_kind_text TooManyTables = codes "V5 TooManyTables"
fault_kind_text TooManyMemories = codes "V6 TooManyMemories"
fault_kind_text UnknownFunc = codes "V7 UnknownFunc"
fault_kind_text UnknownTable = codes "V8 UnknownTable"
fault_kind_text UnknownMemory = codes "V9 UnknownMemory"
fault_kind_text UnknownGlobal = codes "V10 UnknownGlobal"
fault_kind_text UnknownLocal = codes "V11 UnknownLocal"
fault_kind_text UnknownLabel = codes "V12 UnknownLabel"
fault_kind_text StackUnderflow = codes "V13 StackUnderflow"
fault_kind_text TypeMismatch = codes "V14 TypeMismatch"
fault_kind_text StackHeight = codes "V15 StackHeight"
fault_kind_text LabelTypes = codes "V16 LabelTypes"
fault_kind_text GlobalImmutable = codes "V17 GlobalImmutable"
fault_kind_text Alignment = codes "V18 Alignment"
fault_kind_text ConstantExpected = codes "V19 ConstantExpected"
fault_kind_text DuplicateExport = codes "V20 DuplicateExport"
fault_kind_text StartType = codes "V21 StartType"

-- the instruction of a place, where there is one
abbrev pub token_text : Option ℕ → List ℕ
token_text None = []
token_text (Some token) = codes " token " ++ decimal token

abbrev pub place_text : Place → List ℕ
place_text p = codes "section " ++ (decimal p.section ++ (codes " item " ++ (decimal p.item ++ token_text p.token)))

-- what is wrong, and where
abbrev pub fault_text : Fault → List ℕ
fault_text f = fault_kind_text f.kind ++ (codes " at " ++ place_text f.place)

abbrev pub verdict_text : Verdict → List ℕ
verdict_text Valid = codes "valid"
verdict_text (Invalid f) = codes "invalid " ++ fault_text f
