-- The context (3.1.1) in which the items of sections are judged while they are read: what is wrong with each item as it comes, what comes
-- to the context with it, and what that has to do with the lists of a module.
use Rattle.std.specs.Prelude.{◌≡◌, ◌≤◌, ℕ, Bool, if◌then◌else◌, Option, Some, None, List, [], ◌∷◌, ◌++◌, length, map, Result, Ok, IfSome}
use Rattle.std.specs.List.{list_any}
use Rattle.std.specs.Str.{bytes_eq}
use Rattle.wk_bytes.specs.declared.fault.ReadFault.{ReadFault}
use Rattle.wk_bytes.specs.declared.raw.RawSection.{RawSection}
use Rattle.wk_bytes.specs.Leb.{◌>>=◌}
use Rattle.wk_bytes.specs.Raw.{raw_view}
use Rattle.wk_bytes.specs.Frames.{Section}
use Rattle.wk_bytes.specs.Span.{u32_at}
use Rattle.wk_body.specs.declared.types.Profile.{Profile}
use Rattle.wk_body.specs.Vectors.{vector_at}
use Rattle.wk_module.specs.declared.types.FuncType.{FuncType}
use Rattle.wk_module.specs.declared.types.Limits.{Limits}
use Rattle.wk_module.specs.declared.types.GlobalType.{GlobalType}
use Rattle.wk_module.specs.declared.types.GlobalDef.{GlobalDef}
use Rattle.wk_module.specs.declared.types.Import.{Import}
use Rattle.wk_module.specs.declared.types.ImportDesc.{ImportDesc}
use Rattle.wk_module.specs.declared.types.ImportDesc.TheVariants as desc
use Rattle.wk_module.specs.declared.types.Export.{Export}
use Rattle.wk_module.specs.declared.types.Elem.{Elem}
use Rattle.wk_module.specs.declared.types.DataSeg.{DataSeg}
use Rattle.wk_module.specs.Formats.{Reader, made_at, all_at}
use Rattle.wk_module.specs.Items.{export_at}
use Rattle.wk_module.specs.Reading.{section_end}
use Rattle.wk_module.specs.ListReading.{Rise, lists_read, with_listed}
use Rattle.wk_module.specs.Sections.{SectionId, number, of_number, SectionLists, contents, no_lists, omitted}
use Rattle.wk_module.specs.Sections.{TypeSection, ImportSection, FunctionSection, TableSection, MemorySection, GlobalSection, ExportSection}
use Rattle.wk_module.specs.Sections.{StartSection, ElementSection, CodeSection, DataSection}
use Rattle.wk_typing.specs.declared.fault.FaultKind.TheVariants.{UnknownType, DuplicateExport}
use Rattle.wk_typing.specs.declared.fault.Flaw.{Flaw}
use Rattle.wk_typing.specs.declared.fault.Fault.{Fault}
use Rattle.wk_check.specs.Flaws.{first_in}
use Rattle.wk_check.specs.Items.{earlier, flaw, within, type_flaw, import_flaw_by, table_flaw, memory_flaw, global_flaw, index_flaw}
use Rattle.wk_check.specs.Items.{elem_flaw, data_flaw, start_flaws}
use Rattle.wk_check.specs.Spaces.{Spaces, answer_in, spaces_of, with_globals, imported, func_in, table_in, memory_in, global_in}
use Rattle.wk_check.specs.Verdict.{type_flaws, import_flaws, func_flaws, table_flaws, memory_flaws, global_flaws, export_flaws, elem_flaws}
use Rattle.wk_check.specs.Verdict.{data_flaws, front_fault}

-- The functions of a module, as the indexes of their types: those that are imported, and those that it defines.
pub record FuncsSoFar : Type 0 where
  pub imported : List ℕ
  pub own : List ℕ

-- the first, if there is one, and those behind it
abbrev pub headed_by : {X : Type 0} → Option X → List X → List X
headed_by None xs = []
headed_by (Some x) xs = x ∷ xs

-- What items refer to. Of functions and globals those that are imported stand apart; of tables and memories they come first.
pub record ModuleContext : Type 0 where
  pub types : List FuncType
  pub imported_funcs : List ℕ
  pub funcs : List ℕ
  pub tables : List Limits
  pub memories : List Limits
  pub imported_globals : List GlobalType
  pub globals : List GlobalType

-- its index spaces (2.5.1)
abbrev pub spaces_in : ModuleContext → Spaces
spaces_in c = record {
  types = c.types;
  funcs = c.imported_funcs ++ c.funcs;
  tables = c.tables;
  memories = c.memories;
  globals = c.imported_globals ++ c.globals;
}

-- with imported globals alone: what an initialiser sees (3.4.10)
abbrev pub initial_in : ModuleContext → Spaces
initial_in c = with_globals c.imported_globals (spaces_in c)

-- the context of a module with these lists
abbrev pub context_of : SectionLists → ModuleContext
context_of l = record {
  types = l.types;
  imported_funcs = imported func_in l.imports;
  funcs = l.funcs;
  tables = imported table_in l.imports ++ l.tables;
  memories = imported memory_in l.imports ++ l.memories;
  imported_globals = imported global_in l.imports;
  globals = map (λ g. g.ty) l.globals;
}

-- ---- one item more

abbrev pub add_type : ModuleContext → FuncType → ModuleContext
add_type c t = record c { types = c.types ++ t ∷ [] }

abbrev pub add_desc : ModuleContext → ImportDesc → ModuleContext
add_desc c (desc.Func x) = record c { imported_funcs = c.imported_funcs ++ x ∷ [] }
add_desc c (desc.Table l) = record c { tables = c.tables ++ l ∷ [] }
add_desc c (desc.Memory l) = record c { memories = c.memories ++ l ∷ [] }
add_desc c (desc.Global g) = record c { imported_globals = c.imported_globals ++ g ∷ [] }

abbrev pub add_import : ModuleContext → Import → ModuleContext
add_import c i = add_desc c i.desc

abbrev pub add_func : ModuleContext → ℕ → ModuleContext
add_func c x = record c { funcs = c.funcs ++ x ∷ [] }

abbrev pub add_table : ModuleContext → Limits → ModuleContext
add_table c l = record c { tables = c.tables ++ l ∷ [] }

abbrev pub add_memory : ModuleContext → Limits → ModuleContext
add_memory c l = record c { memories = c.memories ++ l ∷ [] }

abbrev pub add_global : ModuleContext → GlobalDef → ModuleContext
add_global c g = record c { globals = c.globals ++ g.ty ∷ [] }

-- a segment leaves the context
abbrev pub add_nothing : {X : Type 0} → ModuleContext → X → ModuleContext
add_nothing c x = c

-- exports are looked at with the names of those before
pub record ExportsSoFar : Type 0 where
  pub context : ModuleContext
  pub names : List (List ℕ)

abbrev pub add_export : ExportsSoFar → Export → ExportsSoFar
add_export s e = record s { names = s.names ++ e.name ∷ [] }

-- ---- what is wrong with the next item

abbrev pub next_type_flaw : Profile → ModuleContext → FuncType → Option Flaw
next_type_flaw profile c t = type_flaw profile t

abbrev pub next_import_flaw : ModuleContext → Import → Option Flaw
next_import_flaw c i = import_flaw_by (length c.types) (length c.tables) (length c.memories) i.desc

abbrev pub next_func_flaw : ModuleContext → ℕ → Option Flaw
next_func_flaw c x = within UnknownType c.types x

abbrev pub next_table_flaw : ModuleContext → Limits → Option Flaw
next_table_flaw c l = table_flaw (length c.tables) l

abbrev pub next_memory_flaw : ModuleContext → Limits → Option Flaw
next_memory_flaw c l = memory_flaw (length c.memories) l

abbrev pub next_global_flaw : ModuleContext → GlobalDef → Option Flaw
next_global_flaw c g = global_flaw (answer_in (initial_in c)) g

abbrev pub next_export_flaw : ExportsSoFar → Export → Option Flaw
next_export_flaw s e =
    earlier (index_flaw (spaces_in s.context) e.kind e.index) (if list_any (λ n. bytes_eq n e.name) s.names then flaw DuplicateExport else None)

abbrev pub next_elem_flaw : ModuleContext → Elem → Option Flaw
next_elem_flaw c e = elem_flaw (spaces_in c) e

abbrev pub next_data_flaw : ModuleContext → DataSeg → Option Flaw
next_data_flaw c d = data_flaw (spaces_in c) d

-- ---- one item after the other

-- what is wrong with each, where each adds to what is looked at with the next
abbrev pub flaws_along : {S X : Type 0} → (S → X → Option Flaw) → (S → X → S) → S → List X → List (Option Flaw)
flaws_along wrong add s [] = []
flaws_along wrong add s (x ∷ xs) = wrong s x ∷ flaws_along wrong add (add s x) xs

-- all that they add
abbrev pub all_added : {S X : Type 0} → (S → X → S) → S → List X → S
all_added add s [] = s
all_added add s (x ∷ xs) = all_added add (add s x) xs

-- what is wrong with one, where that is asked
abbrev pub flaw_if : {X : Type 0} → Bool → (X → Option Flaw) → X → Option Flaw
flaw_if is_asked wrong x = if is_asked then wrong x else None

-- what one adds, and what is wrong with it where that is asked
abbrev pub next_judged : {S X : Type 0} → (S → X → Option Flaw) → (S → X → S) → Bool → S → X → S × Option Flaw
next_judged wrong add is_asked s x = (add s x, flaw_if is_asked (wrong s) x)

-- what the items of a section add, from an index on, and the first fault up to them, where that of what is before them is given
abbrev pub items_judged : {S X : Type 0} → (S → X → Option Flaw) → (S → X → S) → ℕ → S → Option Fault → ℕ → List X → S × Option Fault
items_judged wrong add section s before item xs = (all_added add s xs, earlier before (first_in section item (flaws_along wrong add s xs)))

-- ---- one section after the other

-- What is wrong with the items of a section, in a module with these lists. Bodies are judged apart.
abbrev pub section_flaws : Profile → SectionLists → SectionId → List (Option Flaw)
section_flaws profile l TypeSection = type_flaws profile l
section_flaws profile l ImportSection = import_flaws l
section_flaws profile l FunctionSection = func_flaws l
section_flaws profile l TableSection = table_flaws l
section_flaws profile l MemorySection = memory_flaws l
section_flaws profile l GlobalSection = global_flaws l
section_flaws profile l ExportSection = export_flaws l
section_flaws profile l StartSection = start_flaws (spaces_of l) l.start
section_flaws profile l ElementSection = elem_flaws l
section_flaws profile l CodeSection = []
section_flaws profile l DataSection = data_flaws l

-- the first fault up to a section, where that of those before it is given; custom ones have no say in it
abbrev pub fault_with : Profile → SectionLists → Option Fault → ℕ → Option SectionId → Option Fault
fault_with profile l before id None = before
fault_with profile l before id (Some k) = earlier before (first_in id 0 (section_flaws profile l k))

-- One more section, read and judged: the context with it, and the first fault up to it.
abbrev pub section_judged : Profile → SectionLists → Option Fault → Section → Result (ModuleContext × Option Fault) ReadFault
section_judged profile l before s = with_listed profile l s >>= λ q. Ok (context_of q, fault_with profile q before s.id (of_number s.id))

-- the first fault of all sections but bodies
abbrev pub lists_fault : Profile → SectionLists → Option Fault
lists_fault profile l = earlier (front_fault profile l) (first_in 11 0 (data_flaws l))

-- the sections from an id on are left out
abbrev pub AreOmittedFrom : ℕ → SectionLists → Type 0
AreOmittedFrom id l = (k : SectionId) → id ≤ number k → contents l k ≡ omitted k

-- How a front ends: all sections are read, or the code section comes next, unread.
abbrev pub EndsWith : Profile → List (Result Section ReadFault) → SectionLists → List (Result Section ReadFault) → Option RawSection → Type 0
EndsWith profile all l left None = lists_read profile no_lists all ≡ Ok l
EndsWith profile all l left (Some s) = (s.id ≡ 10) × Rise 10 left × (lists_read profile no_lists all ≡ lists_read profile l (Ok (raw_view s) ∷ left))

-- Of all sections those in front of the code section are read and judged: the context, what is left, the first fault, the code section.
pub record IsFront (profile : Profile) (all : List (Result Section ReadFault)) (c : ModuleContext) (left : List (Result Section ReadFault))
    (fault : Option Fault) (code : Option RawSection) : Type 0 where
  pub lists : SectionLists
  pub context_is : c ≡ context_of lists
  pub fault_is : fault ≡ lists_fault profile lists
  pub no_codes : lists.codes ≡ []
  pub ends : EndsWith profile all lists left code
  pub omitted : IfSome code (λ s. AreOmittedFrom 10 lists)

-- ---- what reads and judges at once

-- all items of a section
abbrev pub items_at_once : {S X : Type 0} → Reader X → (S → X → Option Flaw) → (S → X → S) → S → Option Fault → Section → Result (S × Option Fault) ReadFault
items_at_once read wrong add s before sec =
    all_at (vector_at read) (section_end sec) sec.contents >>= λ xs. Ok (items_judged wrong add sec.id s before 0 xs)

-- its exports, of which none was read before
abbrev pub exports_at_once : ModuleContext → Option Fault → Section → Result (Option Fault) ReadFault
exports_at_once c before sec =
    all_at (vector_at export_at) (section_end sec) sec.contents >>= λ es.
    Ok (items_judged next_export_flaw add_export 7 (record { context = c; names = [] }) before 0 es).1

-- the start section
abbrev pub start_at_once : ModuleContext → Option Fault → Section → Result (Option Fault) ReadFault
start_at_once c before sec =
    all_at (made_at Some u32_at) (section_end sec) sec.contents >>= λ x. Ok (earlier before (first_in 8 0 (start_flaws (spaces_in c) x)))

-- the sections behind the code section
abbrev pub behind_at_once : Profile → SectionLists → Option Fault → List (Result Section ReadFault) → Result (Option Fault) ReadFault
behind_at_once profile l before left = lists_read profile l left >>= λ q. Ok (earlier before (first_in 11 0 (data_flaws q)))
