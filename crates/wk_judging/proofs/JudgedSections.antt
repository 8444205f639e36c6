-- A section whose items are judged while they are read comes to what it does where it is read whole.
use Rattle.std.proofs.Common.{◌≡◌, ℕ, List, [], length, Option, Some, None, Result, Ok, Err, refl, sym, ap, ◌∙◌}
use Rattle.wk_bytes.specs.declared.fault.ReadFault.{ReadFault}
use Rattle.wk_bytes.specs.Leb.{◌>>=◌}
use Rattle.wk_bytes.specs.LebLaws.{done}
use Rattle.wk_bytes.specs.Span.{u32_at, name_at}
use Rattle.wk_bytes.specs.Frames.{Section}
use Rattle.wk_body.specs.declared.types.Profile.{Profile}
use Rattle.wk_body.specs.Vectors.{vector_at}
use Rattle.wk_module.specs.declared.types.Export.{Export}
use Rattle.wk_module.specs.Formats.{Reader, made_at, all_at}
use Rattle.wk_module.specs.Items.{import_at, global_at, export_at, elem_at, data_at}
use Rattle.wk_module.specs.ListReading.{listed_by}
use Rattle.wk_module.specs.Reading.{section_end}
use Rattle.wk_module.specs.Sections.{SectionId, number, of_number, ContentsOf, SectionLists, with_contents, contents_at}
use Rattle.wk_module.specs.Sections.{TypeSection, ImportSection, FunctionSection, TableSection, MemorySection, GlobalSection, ExportSection}
use Rattle.wk_module.specs.Sections.{StartSection, ElementSection, DataSection}
use Rattle.wk_module.specs.SectionLaws.{of_number-is}
use Rattle.wk_module.specs.Types.{functype_at, limits_at, tabletype_at}
use Rattle.wk_typing.specs.declared.fault.Flaw.{Flaw}
use Rattle.wk_typing.specs.declared.fault.Fault.{Fault}
use Rattle.wk_check.specs.Flaws.{first_in}
use Rattle.wk_check.specs.Items.{earlier, start_flaws}
use Rattle.wk_check.specs.Spaces.{spaces_of}
use Rattle.wk_judging.specs.Contexts.{ModuleContext, context_of, add_type, add_import, add_func, add_table, add_memory, add_global, add_nothing}
use Rattle.wk_judging.specs.Contexts.{add_export, next_type_flaw, next_import_flaw, next_func_flaw, next_table_flaw, next_memory_flaw, next_global_flaw}
use Rattle.wk_judging.specs.Contexts.{next_export_flaw, next_elem_flaw, next_data_flaw, items_judged, items_at_once, fault_with, section_judged}
use Rattle.wk_judging.specs.Contexts.{AreOmittedFrom}
use Rattle.wk_judging.proofs.JudgedKinds.{section_comes_to, types_judged, imports_judged, funcs_judged, tables_judged, memories_judged, globals_judged}
use Rattle.wk_judging.proofs.JudgedKinds.{exports_judged, elems_judged, datas_judged}

each_comes_to : {X Y : Type 0} (f g : X → Y) (r : Result X ReadFault) → ((x : X) → f x ≡ g x) → (r >>= λ x. Ok (f x)) ≡ (r >>= λ x. Ok (g x))
each_comes_to f g (Ok x) same = ap (λ y. done y) (same x)
each_comes_to f g (Err e) same = refl

module _ (profile : Profile) (l : SectionLists) (before : Option Fault) (s : Section) where
  put_in : (k : SectionId) (r : Result (ContentsOf k) ReadFault)
      → ((r >>= λ x. Ok (with_contents k x l)) >>= λ q. Ok (context_of q, fault_with profile q before (number k) (Some k)))
      ≡ (r >>= λ x. Ok (section_comes_to profile l before k x))
  put_in k (Ok x) = refl
  put_in k (Err e) = refl

  of_kind : (id : ℕ) (o : Option SectionId) (k : SectionId) → o ≡ Some k → id ≡ number k
      → (listed_by profile l s o >>= λ q. Ok (context_of q, fault_with profile q before id o))
      ≡ (all_at (contents_at profile (length l.funcs) k) (section_end s) s.contents >>= λ x. Ok (section_comes_to profile l before k x))
  unfolding listed_by
  of_kind id o k o_is id_is = rw (o_is, id_is) (put_in k (all_at (contents_at profile (length l.funcs) k) (section_end s) s.contents))

  -- of each section, by what it holds
  pub section_is : (k : SectionId) → s.id ≡ number k
      → section_judged profile l before s
      ≡ (all_at (contents_at profile (length l.funcs) k) (section_end s) s.contents >>= λ x. Ok (section_comes_to profile l before k x))
  section_is k is = of_kind s.id (of_number s.id) k (of_number-is s.id k is) is

  -- where its items are judged one after the other, with the id that it has
  by_items : (k : SectionId) (judged : ℕ → ContentsOf k → ModuleContext × Option Fault)
      → ((x : ContentsOf k) → judged (number k) x ≡ section_comes_to profile l before k x) → s.id ≡ number k
      → section_judged profile l before s ≡ (all_at (contents_at profile (length l.funcs) k) (section_end s) s.contents >>= λ x. Ok (judged s.id x))
  by_items k judged same is =
      section_is k is ∙ sym
      (each_comes_to (judged s.id) (section_comes_to profile l before k) (all_at (contents_at profile (length l.funcs) k) (section_end s) s.contents)
      (λ x. ap (λ (n : ℕ). judged n x) is ∙ same x))

  abbrev pub IsAtOnce : {X : Type 0} → SectionId → Reader X → (ModuleContext → X → Option Flaw) → (ModuleContext → X → ModuleContext) → Type 0
  IsAtOnce k read wrong add = s.id ≡ number k → AreOmittedFrom (number k) l
      → section_judged profile l before s ≡ items_at_once read wrong add (context_of l) before s

  abbrev items : {X : Type 0} → (ModuleContext → X → Option Flaw) → (ModuleContext → X → ModuleContext) → ℕ → List X → ModuleContext × Option Fault
  items wrong add id xs = items_judged wrong add id (context_of l) before 0 xs

  pub type_section : IsAtOnce TypeSection functype_at (next_type_flaw profile) add_type
  type_section is none = by_items TypeSection (items (next_type_flaw profile) add_type) (λ xs. types_judged profile l xs before none) is

  pub import_section : IsAtOnce ImportSection import_at next_import_flaw add_import
  import_section is none = by_items ImportSection (items next_import_flaw add_import) (λ xs. imports_judged profile l xs before none) is

  pub func_section : IsAtOnce FunctionSection u32_at next_func_flaw add_func
  func_section is none = by_items FunctionSection (items next_func_flaw add_func) (λ xs. funcs_judged profile l xs before none) is

  pub table_section : IsAtOnce TableSection tabletype_at next_table_flaw add_table
  table_section is none = by_items TableSection (items next_table_flaw add_table) (λ xs. tables_judged profile l xs before none) is

  pub memory_section : IsAtOnce MemorySection limits_at next_memory_flaw add_memory
  memory_section is none = by_items MemorySection (items next_memory_flaw add_memory) (λ xs. memories_judged profile l xs before none) is

  pub global_section : IsAtOnce GlobalSection (global_at profile) next_global_flaw add_global
  global_section is none = by_items GlobalSection (items next_global_flaw add_global) (λ xs. globals_judged profile l xs before none) is

  pub elem_section : IsAtOnce ElementSection (elem_at profile) next_elem_flaw add_nothing
  elem_section is none = by_items ElementSection (items next_elem_flaw add_nothing) (λ xs. elems_judged profile l xs before none) is

  pub data_section : IsAtOnce DataSection (data_at profile) next_data_flaw add_nothing
  data_section is none = by_items DataSection (items next_data_flaw add_nothing) (λ xs. datas_judged profile l xs before none) is

  -- exports and the start function leave the context
  exports_come_to : (r : Result (List Export) ReadFault)
      → (r >>= λ es. Ok (section_comes_to profile l before ExportSection es))
      ≡ (r >>= λ es. Ok (context_of l, (items_judged next_export_flaw add_export 7 (record { context = context_of l; names = [] }) before 0 es).1))
  exports_come_to (Ok es) = ap (λ (o : Option Fault). done (context_of l, o)) (sym (exports_judged profile l es before))
  exports_come_to (Err e) = refl

  pub export_section : s.id ≡ number ExportSection
      → section_judged profile l before s
      ≡ (all_at (vector_at export_at) (section_end s) s.contents >>= λ es.
      Ok (context_of l, (items_judged next_export_flaw add_export 7 (record { context = context_of l; names = [] }) before 0 es).1))
  export_section is = section_is ExportSection is ∙ exports_come_to (all_at (vector_at export_at) (section_end s) s.contents)

  pub start_section : s.id ≡ number StartSection
      → section_judged profile l before s
      ≡ (all_at (made_at Some u32_at) (section_end s) s.contents >>= λ x. Ok (context_of l, earlier before (first_in 8 0 (start_flaws (spaces_of l) x))))
  start_section is = section_is StartSection is

  -- of a custom section the name is read
  abbrev unchanged : Result (List ℕ × List ℕ) ReadFault → Result (ModuleContext × Option Fault) ReadFault
  unchanged r = r >>= λ name. Ok (context_of l, before)

  named : (r : Result (List ℕ × List ℕ) ReadFault)
      → ((r >>= λ name. Ok l) >>= λ q. Ok (context_of q, fault_with profile q before s.id None)) ≡ unchanged r
  named (Ok name) = refl
  named (Err e) = refl

  custom_by : (o : Option SectionId) → o ≡ None
      → (listed_by profile l s o >>= λ q. Ok (context_of q, fault_with profile q before s.id o)) ≡ unchanged (name_at (section_end s) s.contents)
  unfolding listed_by
  custom_by o is = rw is (named (name_at (section_end s) s.contents))

  pub no_section : of_number s.id ≡ None → section_judged profile l before s ≡ (name_at (section_end s) s.contents >>= λ name. Ok (context_of l, before))
  no_section is = custom_by (of_number s.id) is
