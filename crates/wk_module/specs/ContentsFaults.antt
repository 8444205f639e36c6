-- How the contents of a section break off (5.1.3, 5.5.3 to 5.5.14): what of them is spelled, and what comes then.
use Rattle.std.specs.Prelude.{◌≡◌, ◌≢◌, ◌⊎◌, ℕ, ◌-◌, ◌<◌, List, ◌++◌, length, Err}
use Rattle.std.specs.Str.{IsUtf8}
use Rattle.wk_bytes.specs.declared.fault.ReadKind.{ReadKind}
use Rattle.wk_bytes.specs.declared.fault.ReadKind.TheVariants.{UnexpectedEnd, IntTooLong, IntTooLarge, BadUtf8, BadByte, UnknownOpcode, TooManyLocals}
use Rattle.wk_bytes.specs.declared.fault.ReadKind.TheVariants.{FuncCodeCount, BodySize, TooDeep}
use Rattle.wk_bytes.specs.declared.fault.ReadFault.{ReadFault}
use Rattle.wk_bytes.specs.Leb.{SpellsU, IsIntKind, lastU}
use Rattle.wk_bytes.specs.Span.{Span, offset, u32_at}
use Rattle.wk_bytes.specs.Stands.{Stands}
use Rattle.wk_body.specs.declared.types.Profile.{Profile}
use Rattle.wk_body.specs.Vectors.{SpellsItems}
use Rattle.wk_module.specs.Formats.{Reader}
use Rattle.wk_module.specs.Items.{SpellsImport, import_at, SpellsGlobal, global_at, SpellsExport, export_at, SpellsElem, elem_at, SpellsCode, code_at}
use Rattle.wk_module.specs.Items.{SpellsData, data_at}
use Rattle.wk_module.specs.Sections.{SectionId, TypeSection, ImportSection, FunctionSection, TableSection, MemorySection, GlobalSection, ExportSection}
use Rattle.wk_module.specs.Sections.{StartSection, ElementSection, CodeSection, DataSection}
use Rattle.wk_module.specs.Types.{SpellsFuncType, functype_at, SpellsLimits, limits_at, SpellsTableType, tabletype_at}

-- the fault is of that kind, and at that offset
abbrev pub IsAt : ReadFault → ReadKind → ℕ → Type 0
IsAt e kind at = (e.kind ≡ kind) × (e.at ≡ at)

-- no front of the bytes spells anything
abbrev pub BeginsNone : {A : Type 0} → (List ℕ → A → Type 0) → List ℕ → Type 0
BeginsNone {A = A} Spells b = (x : A) (front later : List ℕ) → Spells front x → b ≡ front ++ later → ⊥

-- ---- integers and names

-- the bytes begin with no unsigned integer of 32 bits
abbrev pub IsNumberFault : Span → ReadFault → Type 0
IsNumberFault s e = IsIntKind lastU 32 s.rest e.kind × (e.at ≡ offset s)

-- A size is spelled, and then there are fewer bytes than it says.
pub record IsShortFault (s : Span) (e : ReadFault) : Type 0 where
  pub size : List ℕ
  pub after : List ℕ
  pub n : ℕ
  pub parts : s.rest ≡ size ++ after
  pub counts : SpellsU 32 size n
  pub fewer : length after < n
  pub there : IsAt e UnexpectedEnd (s.end - length after)

-- the bytes begin with no size, or with one and then fewer bytes
abbrev pub IsSizeFault : Span → ReadFault → Type 0
IsSizeFault s e = IsNumberFault s e ⊎ IsShortFault s e

-- A size is spelled, and then as many bytes, which are not UTF-8.
pub record IsTextFault (s : Span) (e : ReadFault) : Type 0 where
  pub size : List ℕ
  pub text : List ℕ
  pub later : List ℕ
  pub parts : s.rest ≡ size ++ (text ++ later)
  pub counts : SpellsU 32 size (length text)
  pub wrong : ¬ IsUtf8 text
  pub there : IsAt e BadUtf8 (s.end - length (text ++ later))

-- the bytes begin with no name (5.2.4)
abbrev pub IsNameFault : Span → ReadFault → Type 0
IsNameFault s e = IsSizeFault s e ⊎ IsTextFault s e

-- ---- vectors

-- The kinds of a fault of an integer; of an integer or a byte; of these or a name; of an expression; and of a code entry.
abbrev pub IsIntegerKind : ReadKind → Type 0
IsIntegerKind k = (k ≡ UnexpectedEnd) ⊎ (k ≡ IntTooLong) ⊎ (k ≡ IntTooLarge)

abbrev pub IsByteKind : ReadKind → Type 0
IsByteKind k = IsIntegerKind k ⊎ (k ≡ BadByte)

abbrev pub IsNameKind : ReadKind → Type 0
IsNameKind k = IsByteKind k ⊎ (k ≡ BadUtf8)

abbrev pub IsExprKind : ReadKind → Type 0
IsExprKind k = IsByteKind k ⊎ (k ≡ UnknownOpcode) ⊎ (k ≡ TooDeep)

abbrev pub IsBodyKind : ReadKind → Type 0
IsBodyKind k = IsExprKind k ⊎ (k ≡ TooManyLocals) ⊎ (k ≡ BodySize)

-- The number n is spelled, and then fewer than n items, and then no item. The fault lies there or later, and is of a kind that an item may
-- have. Which it is, and where, is what reading that item from left to right meets first.
pub record IsItemFault {A : Type 0} (Spells : List ℕ → A → Type 0) (item_at : Reader A) (IsKind : ReadKind → Type 0) (n : ℕ) (s : Span) (e : ReadFault) :
    Type 0 where
  pub count : List ℕ
  pub items : List ℕ
  pub rest : List ℕ
  pub before : List A
  pub parts : s.rest ≡ count ++ (items ++ rest)
  pub counts : SpellsU 32 count n
  pub spelled : SpellsItems Spells items before
  pub fewer : length before < n
  pub none : BeginsNone Spells rest
  pub kind : IsKind e.kind
  pub within : Stands (record { rest = rest; end = s.end }) e
  pub met : item_at s.end rest ≡ Err e

abbrev pub IsVectorFault : {A : Type 0} → (List ℕ → A → Type 0) → Reader A → (ReadKind → Type 0) → Span → ReadFault → Type 0
IsVectorFault Spells item_at IsKind s e = IsNumberFault s e ⊎ ((n : ℕ) × IsItemFault Spells item_at IsKind n s e)

-- A number is spelled that is not how many functions are declared.
pub record IsCodeCountFault (funcs : ℕ) (s : Span) (e : ReadFault) : Type 0 where
  pub count : List ℕ
  pub codes : List ℕ
  pub n : ℕ
  pub parts : s.rest ≡ count ++ codes
  pub counts : SpellsU 32 count n
  pub other : n ≢ funcs
  pub there : IsAt e FuncCodeCount (offset s)

-- ---- sections

-- No front of the bytes is what the section holds, where so many functions were declared before.
abbrev pub BreaksIn : Profile → ℕ → SectionId → Span → ReadFault → Type 0
BreaksIn profile funcs TypeSection = IsVectorFault SpellsFuncType functype_at IsByteKind
BreaksIn profile funcs ImportSection = IsVectorFault SpellsImport import_at IsNameKind
BreaksIn profile funcs FunctionSection = IsVectorFault (SpellsU 32) u32_at IsIntegerKind
BreaksIn profile funcs TableSection = IsVectorFault SpellsTableType tabletype_at IsByteKind
BreaksIn profile funcs MemorySection = IsVectorFault SpellsLimits limits_at IsByteKind
BreaksIn profile funcs GlobalSection = IsVectorFault (SpellsGlobal profile) (global_at profile) IsExprKind
BreaksIn profile funcs ExportSection = IsVectorFault SpellsExport export_at IsNameKind
BreaksIn profile funcs StartSection = IsNumberFault
BreaksIn profile funcs ElementSection = IsVectorFault (SpellsElem profile) (elem_at profile) IsExprKind
BreaksIn profile funcs CodeSection = λ s e. IsNumberFault s e ⊎ IsCodeCountFault funcs s e
    ⊎ IsItemFault (SpellsCode profile) (code_at profile) IsBodyKind funcs s e
BreaksIn profile funcs DataSection = IsVectorFault (SpellsData profile) (data_at profile) IsExprKind
