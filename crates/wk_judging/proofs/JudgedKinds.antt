-- What the items of each section come to, judged in the context of the sections in front.
use Rattle.std.proofs.Common.{◌≡◌, ℕ, ◌+◌, ◌||◌, Bool, if◌then◌else◌, List, [], ◌∷◌, ◌++◌, length, map, take, Option, None, refl, sym, ap, ◌∙◌, arith}
use Rattle.std.proofs.Common.{length-append}
use Rattle.std.proofs.Math.Seq.{take-append_seam}
use Rattle.std.proofs.lemmas.List.{append-nil, append_assoc, map_push}
use Rattle.std.specs.List.{list_any}
use Rattle.std.specs.Str.{bytes_eq}
use Rattle.wk_body.specs.declared.types.Profile.{Profile}
use Rattle.wk_module.specs.declared.types.FuncType.{FuncType}
use Rattle.wk_module.specs.declared.types.Limits.{Limits}
use Rattle.wk_module.specs.declared.types.GlobalDef.{GlobalDef}
use Rattle.wk_module.specs.declared.types.GlobalType.{GlobalType}
use Rattle.wk_module.specs.declared.types.Import.{Import}
use Rattle.wk_module.specs.declared.types.ImportDesc.{ImportDesc}
use Rattle.wk_module.specs.declared.types.ImportDesc.TheVariants as desc
use Rattle.wk_module.specs.declared.types.Export.{Export}
use Rattle.wk_module.specs.declared.types.Elem.{Elem}
use Rattle.wk_module.specs.declared.types.DataSeg.{DataSeg}
use Rattle.wk_module.specs.Sections.{SectionId, number, ContentsOf, SectionLists, contents, omitted, with_contents}
use Rattle.wk_module.specs.Sections.{TypeSection, ImportSection, FunctionSection, TableSection, MemorySection, GlobalSection, ExportSection}
use Rattle.wk_module.specs.Sections.{StartSection, ElementSection, DataSection}
use Rattle.wk_typing.specs.declared.fault.FaultKind.TheVariants.{UnknownType, DuplicateExport}
use Rattle.wk_typing.specs.declared.fault.Flaw.{Flaw}
use Rattle.wk_typing.specs.declared.fault.Fault.{Fault}
use Rattle.wk_check.specs.Flaws.{numbered, first_in}
use Rattle.wk_check.specs.Items.{earlier, flaw, within, type_flaw, import_flaw, table_flaw, memory_flaw, global_flaw, index_flaw, export_flaw}
use Rattle.wk_check.specs.Items.{elem_flaw, data_flaw}
use Rattle.wk_check.specs.Spaces.{and_more, answer_in, spaces_of, initial_spaces, imported, func_in, table_in, memory_in, global_in}
use Rattle.wk_check.specs.SpacesLaws.{imported_push}
use Rattle.wk_judging.specs.Contexts.{ModuleContext, ExportsSoFar, context_of, add_type, add_desc, add_import, add_func, add_table, add_memory, add_global}
use Rattle.wk_judging.specs.Contexts.{add_nothing, add_export, next_type_flaw, next_import_flaw, next_func_flaw, next_table_flaw, next_memory_flaw}
use Rattle.wk_judging.specs.Contexts.{next_global_flaw, next_export_flaw, next_elem_flaw, next_data_flaw, flaws_along, all_added, items_judged, section_flaws}
use Rattle.wk_judging.specs.Contexts.{AreOmittedFrom}

-- ---- in general, where what is looked at with an item is told by the items before it

module _ {S X : Type 0} (wrong : S → X → Option Flaw) (add : S → X → S) (rule : ℕ → X → Option Flaw) (state : List X → S) (all : List X)
    (each : (before : List X) (x : X) (later : List X) → all ≡ before ++ x ∷ later → wrong (state before) x ≡ rule (length before) x)
    (adds : (before : List X) (x : X) → add (state before) x ≡ state (before ++ x ∷ [])) where
  added_behind : (before xs : List X) → all_added add (state before) xs ≡ state (before ++ xs)
  added_behind before [] = ap state (sym (append-nil before))
  added_behind before (x ∷ xs) =
      ap (λ (s : S). all_added add s xs) (adds before x) ∙ added_behind (before ++ x ∷ []) xs ∙ ap state (append_assoc before (x ∷ []) xs)

  along_behind : (before xs : List X) → all ≡ before ++ xs → flaws_along wrong add (state before) xs ≡ numbered rule (length before) xs
  along_behind before [] is = refl
  along_behind before (x ∷ xs) is =
      let next : length (before ++ x ∷ []) ≡ length before + 1 = length-append before (x ∷ []) in
      ap (λ (w : Option Flaw). w ∷ flaws_along wrong add (add (state before) x) xs) (each before x xs is)
      ∙ ap (λ (ws : List (Option Flaw)). rule (length before) x ∷ ws)
      (ap (λ (s : S). flaws_along wrong add s xs) (adds before x) ∙ along_behind (before ++ x ∷ []) xs (is ∙ sym (append_assoc before (x ∷ []) xs))
      ∙ ap (λ (n : ℕ). numbered rule n xs) next)

  all_judged : (section : ℕ) (before : Option Fault) (first : S) → first ≡ state []
      → items_judged wrong add section first before 0 all ≡ (state all, earlier before (first_in section 0 (numbered rule 0 all)))
  all_judged section before first is =
      ap (λ (s : S). items_judged wrong add section s before 0 all) is
      ∙ (λ i. (added_behind [] all i, earlier before (first_in section 0 (along_behind [] all refl i))))

-- ---- the context before the first item

with_own : (k : SectionId) (l : SectionLists) → with_contents k (contents l k) l ≡ l
with_own TypeSection l = refl
with_own k l = refl

starts : (k : SectionId) (l : SectionLists) → AreOmittedFrom (number k) l → context_of l ≡ context_of (with_contents k (omitted k) l)
starts k l none = ap context_of (sym (with_own k l) ∙ ap (λ (x : ContentsOf k). with_contents k x l) (none k (omega arith)))

-- what the items of a section come to, where the first fault of what is before them is given
abbrev pub section_comes_to : Profile → SectionLists → Option Fault → (k : SectionId) → ContentsOf k → ModuleContext × Option Fault
section_comes_to profile l before k x =
    (context_of (with_contents k x l), earlier before (first_in (number k) 0 (section_flaws profile (with_contents k x l) k)))

-- ---- types, functions, tables, memories, globals, segments

pub types_judged : (profile : Profile) (l : SectionLists) (xs : List FuncType) (before : Option Fault) → AreOmittedFrom (number TypeSection) l
    → items_judged (next_type_flaw profile) add_type (number TypeSection) (context_of l) before 0 xs ≡ section_comes_to profile l before TypeSection xs
types_judged profile l xs before none =
    all_judged (next_type_flaw profile) add_type (λ item t. type_flaw profile t) (λ ts. context_of (with_contents TypeSection ts l)) xs
    (λ ts t later is. refl) (λ ts t. refl) 1 before _ (starts TypeSection l none)

pub funcs_judged : (profile : Profile) (l : SectionLists) (xs : List ℕ) (before : Option Fault) → AreOmittedFrom (number FunctionSection) l
    → items_judged next_func_flaw add_func (number FunctionSection) (context_of l) before 0 xs ≡ section_comes_to profile l before FunctionSection xs
funcs_judged profile l xs before none =
    all_judged next_func_flaw add_func (λ item x. within UnknownType l.types x) (λ fs. context_of (with_contents FunctionSection fs l)) xs
    (λ fs x later is. refl) (λ fs x. refl) 3 before _ (starts FunctionSection l none)

pub tables_judged : (profile : Profile) (l : SectionLists) (xs : List Limits) (before : Option Fault) → AreOmittedFrom (number TableSection) l
    → items_judged next_table_flaw add_table (number TableSection) (context_of l) before 0 xs ≡ section_comes_to profile l before TableSection xs
tables_judged profile l xs before none =
    let front = imported table_in l.imports in
    all_judged next_table_flaw add_table (λ item t. table_flaw (length front + item) t) (λ ts. context_of (with_contents TableSection ts l)) xs
    (λ ts t later is. ap (λ (n : ℕ). table_flaw n t) (length-append front ts))
    (λ ts t. ap (λ (all : List Limits). record (context_of l) { tables = all }) (append_assoc front ts (t ∷ [])))
    4 before _ (starts TableSection l none)

pub memories_judged : (profile : Profile) (l : SectionLists) (xs : List Limits) (before : Option Fault) → AreOmittedFrom (number MemorySection) l
    → items_judged next_memory_flaw add_memory (number MemorySection) (context_of l) before 0 xs ≡ section_comes_to profile l before MemorySection xs
memories_judged profile l xs before none =
    let front = imported memory_in l.imports in
    all_judged next_memory_flaw add_memory (λ item m. memory_flaw (length front + item) m) (λ ms. context_of (with_contents MemorySection ms l)) xs
    (λ ms m later is. ap (λ (n : ℕ). memory_flaw n m) (length-append front ms))
    (λ ms m. ap (λ (all : List Limits). record (context_of l) { memories = all }) (append_assoc front ms (m ∷ [])))
    5 before _ (starts MemorySection l none)

pub globals_judged : (profile : Profile) (l : SectionLists) (xs : List GlobalDef) (before : Option Fault) → AreOmittedFrom (number GlobalSection) l
    → items_judged next_global_flaw add_global (number GlobalSection) (context_of l) before 0 xs ≡ section_comes_to profile l before GlobalSection xs
globals_judged profile l xs before none =
    all_judged next_global_flaw add_global (λ item g. global_flaw (answer_in (initial_spaces l)) g) (λ gs. context_of (with_contents GlobalSection gs l)) xs
    (λ gs g later is. refl)
    (λ gs g. ap (λ (all : List GlobalType). record (context_of l) { globals = all }) (sym (map_push (λ (x : GlobalDef). x.ty) gs g)))
    6 before _ (starts GlobalSection l none)

pub elems_judged : (profile : Profile) (l : SectionLists) (xs : List Elem) (before : Option Fault) → AreOmittedFrom (number ElementSection) l
    → items_judged next_elem_flaw add_nothing (number ElementSection) (context_of l) before 0 xs ≡ section_comes_to profile l before ElementSection xs
elems_judged profile l xs before none =
    all_judged next_elem_flaw add_nothing (λ item e. elem_flaw (spaces_of l) e) (λ es. context_of l) xs (λ es e later is. refl) (λ es e. refl)
    9 before (context_of l) refl

pub datas_judged : (profile : Profile) (l : SectionLists) (xs : List DataSeg) (before : Option Fault) → AreOmittedFrom (number DataSection) l
    → items_judged next_data_flaw add_nothing (number DataSection) (context_of l) before 0 xs ≡ section_comes_to profile l before DataSection xs
datas_judged profile l xs before none =
    all_judged next_data_flaw add_nothing (λ item d. data_flaw (spaces_of l) d) (λ ds. context_of l) xs (λ ds d later is. refl) (λ ds d. refl)
    11 before (context_of l) refl

-- ---- imports

-- of each space what is imported alone
abbrev importing : SectionLists → List Import → ModuleContext
importing l is = record (context_of l) {
  imported_funcs = imported func_in is;
  tables = imported table_in is;
  memories = imported memory_in is;
  imported_globals = imported global_in is;
}

none_defined : (l : SectionLists) (is : List Import) → l.tables ≡ [] → l.memories ≡ [] → context_of (with_contents ImportSection is l) ≡ importing l is
none_defined l is tables memories =
    let of_tables = ap (λ (ts : List Limits). imported table_in is ++ ts) tables ∙ append-nil (imported table_in is) in
    let of_memories = ap (λ (ms : List Limits). imported memory_in is ++ ms) memories ∙ append-nil (imported memory_in is) in
    λ i. record (importing l is) { tables = of_tables i; memories = of_memories i }

abbrev with_desc : ModuleContext → ImportDesc → ModuleContext
with_desc c d = record c {
  imported_funcs = c.imported_funcs ++ and_more (func_in d) [];
  tables = c.tables ++ and_more (table_in d) [];
  memories = c.memories ++ and_more (memory_in d) [];
  imported_globals = c.imported_globals ++ and_more (global_in d) [];
}

with_desc_is : (c : ModuleContext) (d : ImportDesc) → with_desc c d ≡ add_desc c d
with_desc_is c (desc.Func x) = λ i. record (add_desc c (desc.Func x)) {
  tables = append-nil c.tables i;
  memories = append-nil c.memories i;
  imported_globals = append-nil c.imported_globals i;
}
with_desc_is c (desc.Table t) = λ i. record (add_desc c (desc.Table t)) {
  imported_funcs = append-nil c.imported_funcs i;
  memories = append-nil c.memories i;
  imported_globals = append-nil c.imported_globals i;
}
with_desc_is c (desc.Memory m) = λ i. record (add_desc c (desc.Memory m)) {
  imported_funcs = append-nil c.imported_funcs i;
  tables = append-nil c.tables i;
  imported_globals = append-nil c.imported_globals i;
}
with_desc_is c (desc.Global g) = λ i. record (add_desc c (desc.Global g)) {
  imported_funcs = append-nil c.imported_funcs i;
  tables = append-nil c.tables i;
  memories = append-nil c.memories i;
}

imports_more : (l : SectionLists) (is : List Import) (x : Import) → importing l (is ++ x ∷ []) ≡ with_desc (importing l is) x.desc
imports_more l is x = λ i. record (importing l is) {
  imported_funcs = imported_push func_in is x i;
  tables = imported_push table_in is x i;
  memories = imported_push memory_in is x i;
  imported_globals = imported_push global_in is x i;
}

-- the items in front of one
before_it : {X : Type 0} (all before : List X) (x : X) (later : List X) → all ≡ before ++ x ∷ later → before ≡ take (length before) all
before_it all before x later is = sym (ap (take (length before)) is ∙ take-append_seam before (x ∷ later))

pub imports_judged : (profile : Profile) (l : SectionLists) (xs : List Import) (before : Option Fault) → AreOmittedFrom (number ImportSection) l
    → items_judged next_import_flaw add_import (number ImportSection) (context_of l) before 0 xs ≡ section_comes_to profile l before ImportSection xs
imports_judged profile l xs before none =
    let tables = none TableSection (omega arith) in
    let memories = none MemorySection (omega arith) in
    all_judged next_import_flaw add_import (λ item i. import_flaw l.types (take item xs) i.desc) (importing l) xs
    (λ is x later e. ap (λ (front : List Import). import_flaw l.types front x.desc) (before_it xs is x later e))
    (λ is x. sym (imports_more l is x ∙ with_desc_is (importing l is) x.desc)) 2 before _
    (starts ImportSection l none ∙ none_defined l [] tables memories)
    ∙ ap (λ (c : ModuleContext). (c, earlier before (first_in 2 0 (section_flaws profile (with_contents ImportSection xs l) ImportSection))))
    (sym (none_defined l xs tables memories))

-- ---- exports, and the start function: they leave the context

abbrev exporting : SectionLists → List Export → ExportsSoFar
exporting l es = record { context = context_of l; names = map (λ (e : Export). e.name) es }

any_named : (name : List ℕ) (es : List Export)
    → list_any (λ n. bytes_eq n name) (map (λ (e : Export). e.name) es) ≡ list_any (λ (e : Export). bytes_eq e.name name) es
any_named name [] = refl
any_named name (e ∷ es) = ap (λ (b : Bool). bytes_eq e.name name || b) (any_named name es)

next_export_is : (l : SectionLists) (es : List Export) (e : Export) → next_export_flaw (exporting l es) e ≡ export_flaw (spaces_of l) es e
next_export_is l es e =
    ap (λ (b : Bool). earlier (index_flaw (spaces_of l) e.kind e.index) (if b then flaw DuplicateExport else None)) (any_named e.name es)

pub exports_judged : (profile : Profile) (l : SectionLists) (es : List Export) (before : Option Fault)
    → (items_judged next_export_flaw add_export (number ExportSection) (record { context = context_of l; names = [] }) before 0 es).1
    ≡ earlier before (first_in (number ExportSection) 0 (section_flaws profile (with_contents ExportSection es l) ExportSection))
exports_judged profile l es before =
    ap (λ (p : ExportsSoFar × Option Fault). p.1)
    (all_judged next_export_flaw add_export (λ item e. export_flaw (spaces_of l) (take item es) e) (exporting l) es
    (λ ds e later is. next_export_is l ds e ∙ ap (λ (front : List Export). export_flaw (spaces_of l) front e) (before_it es ds e later is))
    (λ ds e. ap (λ (names : List (List ℕ)). record { context = context_of l; names = names }) (sym (map_push (λ (x : Export). x.name) ds e))) 7 before
    (exporting l []) refl)

pub exports_leave : (l : SectionLists) (es : List Export) → context_of (with_contents ExportSection es l) ≡ context_of l
exports_leave l es = refl

pub start_leaves : (l : SectionLists) (x : Option ℕ) → context_of (with_contents StartSection x l) ≡ context_of l
start_leaves l x = refl

-- nor do segments and bodies change it
pub elems_leave : (l : SectionLists) (xs : List Elem) → context_of (with_contents ElementSection xs l) ≡ context_of l
elems_leave l xs = refl

pub datas_leave : (l : SectionLists) (xs : List DataSeg) → context_of (with_contents DataSection xs l) ≡ context_of l
datas_leave l xs = refl
