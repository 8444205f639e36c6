-- The sections of a module but its custom ones (5.5.2): what each holds, and how that is spelled, read and written.
use Rattle.std.specs.Prelude.{ℕ, ◌==◌, if◌then◌else◌, Bool, true, false, not, Option, Some, None, List, [], length, Err}
use Rattle.std.specs.List.{AllByRecursion}
use Rattle.wk_bytes.specs.declared.fault.ReadKind.TheVariants.{FuncCodeCount}
use Rattle.wk_bytes.specs.Leb.{◌>>=◌, SpellsU}
use Rattle.wk_bytes.specs.ListWords.{is_empty}
use Rattle.wk_bytes.specs.Short.{short}
use Rattle.wk_bytes.specs.Span.{fault, u32_at}
use Rattle.wk_body.specs.declared.types.Profile.{Profile}
use Rattle.wk_body.specs.Bodies.{BodyOf}
use Rattle.wk_body.specs.Shape.{IsU32}
use Rattle.wk_body.specs.Vectors.{SpellsVector, items_at, vector_at, written_vector}
use Rattle.wk_module.specs.declared.types.FuncType.{FuncType}
use Rattle.wk_module.specs.declared.types.Limits.{Limits}
use Rattle.wk_module.specs.declared.types.Import.{Import}
use Rattle.wk_module.specs.declared.types.GlobalDef.{GlobalDef}
use Rattle.wk_module.specs.declared.types.Export.{Export}
use Rattle.wk_module.specs.declared.types.Elem.{Elem}
use Rattle.wk_module.specs.declared.types.DataSeg.{DataSeg}
use Rattle.wk_module.specs.Formats.{Reader, made_at}
use Rattle.wk_module.specs.Types.{SpellsFuncType, functype_at, written_functype, SpellsLimits, limits_at, written_limits, AreLimits, SpellsTableType}
use Rattle.wk_module.specs.Types.{tabletype_at, written_tabletype}
use Rattle.wk_module.specs.Items.{SpellsImport, import_at, written_import, IsImport, SpellsGlobal, global_at, written_global, IsGlobal, SpellsExport, export_at}
use Rattle.wk_module.specs.Items.{written_export, IsExport, SpellsElem, elem_at, written_elem, IsElem, SpellsCode, code_at, written_code, IsCode, SpellsData}
use Rattle.wk_module.specs.Items.{data_at, written_data, IsData}

pub data SectionId : Type 0 where
  TypeSection : SectionId
  ImportSection : SectionId
  FunctionSection : SectionId
  TableSection : SectionId
  MemorySection : SectionId
  GlobalSection : SectionId
  ExportSection : SectionId
  StartSection : SectionId
  ElementSection : SectionId
  CodeSection : SectionId
  DataSection : SectionId

-- ---- the ids as numbers

abbrev pub number : SectionId → ℕ
number TypeSection = 1
number ImportSection = 2
number FunctionSection = 3
number TableSection = 4
number MemorySection = 5
number GlobalSection = 6
number ExportSection = 7
number StartSection = 8
number ElementSection = 9
number CodeSection = 10
number DataSection = 11

abbrev pub of_number : ℕ → Option SectionId
of_number n =
    if n == 1 then Some TypeSection
    else if n == 2 then Some ImportSection
    else if n == 3 then Some FunctionSection
    else if n == 4 then Some TableSection
    else if n == 5 then Some MemorySection
    else if n == 6 then Some GlobalSection
    else if n == 7 then Some ExportSection
    else if n == 8 then Some StartSection
    else if n == 9 then Some ElementSection
    else if n == 10 then Some CodeSection
    else if n == 11 then Some DataSection
    else None

-- ---- what each holds

-- The start section holds one index, and is nothing where it is left out. All others hold lists.
abbrev pub ContentsOf : SectionId → Type 0
ContentsOf TypeSection = List FuncType
ContentsOf ImportSection = List Import
ContentsOf FunctionSection = List ℕ
ContentsOf TableSection = List Limits
ContentsOf MemorySection = List Limits
ContentsOf GlobalSection = List GlobalDef
ContentsOf ExportSection = List Export
ContentsOf StartSection = Option ℕ
ContentsOf ElementSection = List Elem
ContentsOf CodeSection = List BodyOf
ContentsOf DataSection = List DataSeg

-- the contents of all of them; the functions are parted into the indexes of their types and their codes
pub record SectionLists : Type 0 where
  pub types : List FuncType
  pub imports : List Import
  pub funcs : List ℕ
  pub tables : List Limits
  pub memories : List Limits
  pub globals : List GlobalDef
  pub exports : List Export
  pub start : Option ℕ
  pub elems : List Elem
  pub codes : List BodyOf
  pub datas : List DataSeg

abbrev pub contents : SectionLists → (k : SectionId) → ContentsOf k
contents l TypeSection = l.types
contents l ImportSection = l.imports
contents l FunctionSection = l.funcs
contents l TableSection = l.tables
contents l MemorySection = l.memories
contents l GlobalSection = l.globals
contents l ExportSection = l.exports
contents l StartSection = l.start
contents l ElementSection = l.elems
contents l CodeSection = l.codes
contents l DataSection = l.datas

-- what a section holds where it is left out
abbrev pub omitted : (k : SectionId) → ContentsOf k
omitted StartSection = None
omitted _ = []

abbrev pub no_lists : SectionLists
no_lists = record {
  types = [];
  imports = [];
  funcs = [];
  tables = [];
  memories = [];
  globals = [];
  exports = [];
  start = None;
  elems = [];
  codes = [];
  datas = [];
}

-- x where j is k, and else what k held before
abbrev pub pick : (k j : SectionId) → ContentsOf j → ContentsOf k → ContentsOf k
pick TypeSection TypeSection x old = x
pick ImportSection ImportSection x old = x
pick FunctionSection FunctionSection x old = x
pick TableSection TableSection x old = x
pick MemorySection MemorySection x old = x
pick GlobalSection GlobalSection x old = x
pick ExportSection ExportSection x old = x
pick StartSection StartSection x old = x
pick ElementSection ElementSection x old = x
pick CodeSection CodeSection x old = x
pick DataSection DataSection x old = x
pick _ _ x old = old

-- other contents for one section
abbrev pub with_contents : (j : SectionId) → ContentsOf j → SectionLists → SectionLists
with_contents j x l = record {
  types = pick TypeSection j x l.types;
  imports = pick ImportSection j x l.imports;
  funcs = pick FunctionSection j x l.funcs;
  tables = pick TableSection j x l.tables;
  memories = pick MemorySection j x l.memories;
  globals = pick GlobalSection j x l.globals;
  exports = pick ExportSection j x l.exports;
  start = pick StartSection j x l.start;
  elems = pick ElementSection j x l.elems;
  codes = pick CodeSection j x l.codes;
  datas = pick DataSection j x l.datas;
}

abbrev pub is_some : Option ℕ → Bool
is_some None = false
is_some (Some x) = true

-- whether the section is not empty, so that it is written
abbrev pub is_full : (k : SectionId) → ContentsOf k → Bool
is_full StartSection x = is_some x
is_full _ xs = not (is_empty xs)

-- how many items it holds; the start section is no list
abbrev pub item_count : (k : SectionId) → ContentsOf k → ℕ
item_count StartSection x = 0
item_count _ xs = length xs

-- ---- in the grammar

-- the start section holds the index of a function (5.5.11)
abbrev pub SpellsStart : List ℕ → Option ℕ → Type 0
SpellsStart b None = ⊥
SpellsStart b (Some x) = SpellsU 32 b x

abbrev pub SpellsContents : Profile → (k : SectionId) → List ℕ → ContentsOf k → Type 0
SpellsContents profile TypeSection = SpellsVector SpellsFuncType
SpellsContents profile ImportSection = SpellsVector SpellsImport
SpellsContents profile FunctionSection = SpellsVector (SpellsU 32)
SpellsContents profile TableSection = SpellsVector SpellsTableType
SpellsContents profile MemorySection = SpellsVector SpellsLimits
SpellsContents profile GlobalSection = SpellsVector (SpellsGlobal profile)
SpellsContents profile ExportSection = SpellsVector SpellsExport
SpellsContents profile StartSection = SpellsStart
SpellsContents profile ElementSection = SpellsVector (SpellsElem profile)
SpellsContents profile CodeSection = SpellsVector (SpellsCode profile)
SpellsContents profile DataSection = SpellsVector (SpellsData profile)

-- ---- as they are read

-- As many codes as there are functions. Where their count is another one, that is a fault at the count.
unfoldable pub codes_at : Profile → ℕ → Reader (List BodyOf)
codes_at profile funcs end bytes = do
  n ← u32_at end bytes
  if n.0 == funcs then items_at (code_at profile) n.0 end n.1 else Err (fault FuncCodeCount end bytes)

-- the contents of a section, where that many functions were declared before
abbrev pub contents_at : Profile → ℕ → (k : SectionId) → Reader (ContentsOf k)
contents_at profile funcs TypeSection = vector_at functype_at
contents_at profile funcs ImportSection = vector_at import_at
contents_at profile funcs FunctionSection = vector_at u32_at
contents_at profile funcs TableSection = vector_at tabletype_at
contents_at profile funcs MemorySection = vector_at limits_at
contents_at profile funcs GlobalSection = vector_at (global_at profile)
contents_at profile funcs ExportSection = vector_at export_at
contents_at profile funcs StartSection = made_at Some u32_at
contents_at profile funcs ElementSection = vector_at (elem_at profile)
contents_at profile funcs CodeSection = codes_at profile funcs
contents_at profile funcs DataSection = vector_at (data_at profile)

-- ---- as they are written

abbrev pub written_start : Option ℕ → List ℕ
written_start None = []
written_start (Some x) = short x

abbrev pub written_contents : (k : SectionId) → ContentsOf k → List ℕ
written_contents TypeSection = written_vector written_functype
written_contents ImportSection = written_vector written_import
written_contents FunctionSection = written_vector short
written_contents TableSection = written_vector written_tabletype
written_contents MemorySection = written_vector written_limits
written_contents GlobalSection = written_vector written_global
written_contents ExportSection = written_vector written_export
written_contents StartSection = written_start
written_contents ElementSection = written_vector written_elem
written_contents CodeSection = written_vector written_code
written_contents DataSection = written_vector written_data

-- ---- what the values keep

abbrev pub IsStart : Option ℕ → Type 0
IsStart None = Unit {0}
IsStart (Some x) = IsU32 x

-- no more items than indexes count, and each is valid
abbrev pub AreItems : {A : Type 0} → (A → Type 0) → List A → Type 0
AreItems IsItem xs = IsU32 (length xs) × AllByRecursion IsItem xs

-- numbers are in their ranges, names are UTF-8, expressions and bodies are ones of the profile that bytes can spell
abbrev pub AreValid : Profile → (k : SectionId) → ContentsOf k → Type 0
AreValid profile TypeSection xs = IsU32 (length xs)
AreValid profile ImportSection xs = AreItems IsImport xs
AreValid profile FunctionSection xs = AreItems IsU32 xs
AreValid profile TableSection xs = AreItems AreLimits xs
AreValid profile MemorySection xs = AreItems AreLimits xs
AreValid profile GlobalSection xs = AreItems (IsGlobal profile) xs
AreValid profile ExportSection xs = AreItems IsExport xs
AreValid profile StartSection x = IsStart x
AreValid profile ElementSection xs = AreItems (IsElem profile) xs
AreValid profile CodeSection xs = AreItems (IsCode profile) xs
AreValid profile DataSection xs = AreItems (IsData profile) xs
