-- What is wrong with each item of a module's sections (3.2, 3.4), the first of several things in the order in which they are
-- looked at.
use Rattle.std.specs.Prelude.{ℕ, ◌^◌, ◌+◌, ◌&&◌, Bool, true, false, nat_lt, if◌then◌else◌, Option, Some, None, List, [], ◌∷◌, length}
use Rattle.std.specs.List.{list_any}
use Rattle.std.specs.Str.{bytes_eq}
use Rattle.wk_body.specs.declared.types.Profile.{Profile}
use Rattle.wk_body.specs.declared.types.Profile.TheVariants.{Core, Extended}
use Rattle.wk_body.specs.declared.types.ValType.TheVariants.{I32}
use Rattle.wk_body.specs.declared.references.Ref.{Ref}
use Rattle.wk_body.specs.declared.references.Ref.TheVariants as refs
use Rattle.wk_module.specs.declared.types.FuncType.{FuncType}
use Rattle.wk_module.specs.declared.types.Limits.{Limits}
use Rattle.wk_module.specs.declared.types.Import.{Import}
use Rattle.wk_module.specs.declared.types.ImportDesc.{ImportDesc}
use Rattle.wk_module.specs.declared.types.ImportDesc.TheVariants as desc
use Rattle.wk_module.specs.declared.types.Kind.{Kind}
use Rattle.wk_module.specs.declared.types.Kind.TheVariants as kinds
use Rattle.wk_module.specs.declared.types.Export.{Export}
use Rattle.wk_module.specs.declared.types.GlobalDef.{GlobalDef}
use Rattle.wk_module.specs.declared.types.Elem.{Elem}
use Rattle.wk_module.specs.declared.types.DataSeg.{DataSeg}
use Rattle.wk_typing.specs.declared.fault.FaultKind.{FaultKind}
use Rattle.wk_typing.specs.declared.fault.FaultKind.TheVariants.{TypeArity, UnknownType, LimitsOrder, MemoryRange, TooManyTables, TooManyMemories, UnknownFunc}
use Rattle.wk_typing.specs.declared.fault.FaultKind.TheVariants.{UnknownTable, UnknownMemory, UnknownGlobal, DuplicateExport, StartType}
use Rattle.wk_typing.specs.declared.fault.Flaw.{Flaw}
use Rattle.wk_typing.specs.Answers.{Found, FuncIs}
use Rattle.wk_check.specs.Spaces.{Spaces, answer_in, imported, table_in, memory_in}
use Rattle.wk_typing.specs.Own.{is_empty}
use Rattle.wk_typing.specs.Constants.{constant_flaw}

-- the first of two, if either is there
abbrev pub earlier : {X : Type 0} → Option X → Option X → Option X
earlier (Some x) y = Some x
earlier None y = y

-- a flaw of the whole item
abbrev pub flaw : FaultKind → Option Flaw
flaw kind = Some (record { kind = kind; token = None })

abbrev pub unless : FaultKind → Bool → Option Flaw
unless kind true = None
unless kind false = flaw kind

-- the index is one of the space
abbrev pub within : {X : Type 0} → FaultKind → List X → ℕ → Option Flaw
within kind space x = unless kind (nat_lt x (length space))

-- ---- types (3.2.2): at most one result, in 1.0

abbrev pub type_flaw : Profile → FuncType → Option Flaw
type_flaw Core t = unless TypeArity (nat_lt (length t.results) 2)
type_flaw Extended t = None

-- ---- tables and memories (3.2.1, 3.2.3, 3.2.4, 3.4.10)

-- the least size is not above the greatest
abbrev pub in_order : ℕ → Option ℕ → Bool
in_order min None = true
in_order min (Some max) = nat_lt min (max + 1)

-- a memory has at most so many pages
abbrev pub most_pages : ℕ
most_pages = 2 ^ 16

abbrev pub in_range : ℕ → Option ℕ → Bool
in_range min None = nat_lt min (most_pages + 1)
in_range min (Some max) = nat_lt min (most_pages + 1) && nat_lt max (most_pages + 1)

-- a table, or a memory, is the first in its space
abbrev pub alone : FaultKind → ℕ → Option Flaw
alone kind before = unless kind (nat_lt before 1)

-- so many tables come before it
abbrev pub table_flaw : ℕ → Limits → Option Flaw
table_flaw before l = earlier (unless LimitsOrder (in_order l.min l.max)) (alone TooManyTables before)

abbrev pub memory_flaw : ℕ → Limits → Option Flaw
memory_flaw before l =
    earlier (unless LimitsOrder (in_order l.min l.max)) (earlier (unless MemoryRange (in_range l.min l.max)) (alone TooManyMemories before))

-- ---- imports (3.4.9), with those that come before

-- where there are so many types, and so many tables and memories are imported before it
abbrev pub import_flaw_by : ℕ → ℕ → ℕ → ImportDesc → Option Flaw
import_flaw_by types tables memories (desc.Func x) = unless UnknownType (nat_lt x types)
import_flaw_by types tables memories (desc.Table l) = table_flaw tables l
import_flaw_by types tables memories (desc.Memory l) = memory_flaw memories l
import_flaw_by types tables memories (desc.Global g) = None

abbrev pub import_flaw : List FuncType → List Import → ImportDesc → Option Flaw
import_flaw types before d = import_flaw_by (length types) (length (imported table_in before)) (length (imported memory_in before)) d

-- ---- globals (3.4.4), element segments (3.4.5), data segments (3.4.6)

abbrev pub global_flaw : (Ref → Found) → GlobalDef → Option Flaw
global_flaw A g = constant_flaw A g.ty.val g.init

-- each index is one of the space
abbrev pub all_within : ℕ → List ℕ → Bool
all_within n [] = true
all_within n (x ∷ xs) = if nat_lt x n then all_within n xs else false

abbrev pub elem_flaw : Spaces → Elem → Option Flaw
elem_flaw s e =
    earlier (within UnknownTable s.tables e.table)
    (earlier (constant_flaw (answer_in s) I32 e.offset) (unless UnknownFunc (all_within (length s.funcs) e.funcs)))

abbrev pub data_flaw : Spaces → DataSeg → Option Flaw
data_flaw s d = earlier (within UnknownMemory s.memories d.memory) (constant_flaw (answer_in s) I32 d.offset)

-- ---- exports (3.4.8, 3.4.10), with those that come before

abbrev pub index_flaw : Spaces → Kind → ℕ → Option Flaw
index_flaw s kinds.Func x = within UnknownFunc s.funcs x
index_flaw s kinds.Table x = within UnknownTable s.tables x
index_flaw s kinds.Memory x = within UnknownMemory s.memories x
index_flaw s kinds.Global x = within UnknownGlobal s.globals x

abbrev pub export_flaw : Spaces → List Export → Export → Option Flaw
export_flaw s before e =
    earlier (index_flaw s e.kind e.index) (if list_any (λ d. bytes_eq d.name e.name) before then flaw DuplicateExport else None)

-- ---- the start function (3.4.7): it takes nothing and gives nothing

abbrev pub is_start : Found → Bool
is_start (FuncIs t) = is_empty t.params && is_empty t.results
is_start _ = false

abbrev pub start_flaw : Spaces → ℕ → Option Flaw
start_flaw s x = earlier (within UnknownFunc s.funcs x) (unless StartType (is_start (answer_in s (refs.Func x))))

abbrev pub start_flaws : Spaces → Option ℕ → List (Option Flaw)
start_flaws s None = []
start_flaws s (Some x) = start_flaw s x ∷ []
