-- The details listing: a heading for each section of the written form, and a line for each of its items.
use Rattle.std.specs.Prelude.{ℕ, ◌+◌, if◌then◌else◌, Option, Some, None, List, [], ◌∷◌, ◌++◌, length, codes, decimal}
use Rattle.std.specs.List.{flat_map}
use Rattle.hex.specs.Hex.{encode_lower}
use Rattle.wk_bytes.specs.ListWords.{is_empty}
use Rattle.wk_body.specs.Tree.{Instrs}
use Rattle.wk_body.specs.Written.{written_expr, written_body}
use Rattle.wk_module.specs.declared.types.FuncType.{FuncType}
use Rattle.wk_module.specs.declared.types.Limits.{Limits}
use Rattle.wk_module.specs.declared.types.Import.{Import}
use Rattle.wk_module.specs.declared.types.ImportDesc.{ImportDesc}
use Rattle.wk_module.specs.declared.types.ImportDesc.TheVariants as desc
use Rattle.wk_module.specs.declared.types.Func.{Func as FuncOf}
use Rattle.wk_module.specs.declared.types.GlobalDef.{GlobalDef}
use Rattle.wk_module.specs.declared.types.Export.{Export}
use Rattle.wk_module.specs.declared.types.Elem.{Elem}
use Rattle.wk_module.specs.declared.types.DataSeg.{DataSeg}
use Rattle.wk_module.specs.declared.types.Custom.{Custom}
use Rattle.wk_module.specs.declared.types.Kind.TheVariants.{Func, Table, Memory, Global}
use Rattle.wk_module.specs.declared.types.Parts.{Parts}
use Rattle.wk_module.specs.Items.{desc_kind}
use Rattle.wk_module.specs.Sections.{SectionId, TypeSection, ImportSection, FunctionSection, TableSection, MemorySection, GlobalSection, ExportSection}
use Rattle.wk_module.specs.Sections.{StartSection, ElementSection, CodeSection, DataSection, number, of_number}
use Rattle.wk_module.specs.Writing.{ids}
use Rattle.wk_list.specs.Text.{name_text, spaced, joined, numbered, functype_text, limits_text, globaltype_text, kind_name, indexed}
use Rattle.wk_list.specs.Spaces.{count_of}
use Rattle.wk_list.specs.Headers.{section_name, customs_of}

-- ---- pieces of lines

-- as ` - type[0]`
abbrev pub item_text : List ℕ → ℕ → List ℕ
item_text name index = codes " - " ++ indexed name index

-- as ` type=0`
abbrev pub field : List ℕ → ℕ → List ℕ
field label n = label ++ decimal n

-- an expression in its written form, as ` init=41000b`
abbrev pub code_field : List ℕ → Instrs → List ℕ
code_field label t = label ++ encode_lower (written_expr t)

-- the line of an item by what stands behind its name and its index
abbrev pub row_line : {A : Type 0} → (A → List ℕ) → List ℕ → ℕ → A → List ℕ
row_line rest name index item = item_text name index ++ rest item

-- a name after a space
abbrev pub named : List ℕ → List ℕ
named name = codes " " ++ name_text name

-- ---- one line each; the items of an index space are told by their index in it

abbrev pub type_line : ℕ → FuncType → List ℕ
type_line index t = item_text (codes "type") index ++ (codes " " ++ (functype_text t ++ codes "\n"))

-- behind what is imported and its index
abbrev pub desc_text : ImportDesc → List ℕ
desc_text (desc.Func x) = field (codes " type=") x
desc_text (desc.Table l) = limits_text l
desc_text (desc.Memory l) = limits_text l
desc_text (desc.Global g) = globaltype_text g

-- the module's name and the name in it
abbrev pub import_head : ℕ → Import → List ℕ
import_head index i = item_text (codes "import") index ++ (named i.from ++ (named i.name ++ codes " "))

-- an import behind others
abbrev pub import_line : List Import → Import → List ℕ
import_line before i =
    import_head (length before) i ++ (indexed (kind_name (desc_kind i.desc)) (count_of (desc_kind i.desc) before) ++ (desc_text i.desc ++ codes "\n"))

abbrev pub func_line : ℕ → FuncOf → List ℕ
func_line index f = item_text (codes "func") index ++ (field (codes " type=") f.ty ++ codes "\n")

abbrev pub table_line : ℕ → Limits → List ℕ
table_line index l = item_text (codes "table") index ++ (limits_text l ++ codes "\n")

abbrev pub memory_line : ℕ → Limits → List ℕ
memory_line index l = item_text (codes "memory") index ++ (limits_text l ++ codes "\n")

abbrev pub global_line : ℕ → GlobalDef → List ℕ
global_line index g = item_text (codes "global") index ++ (globaltype_text g.ty ++ (code_field (codes " init=") g.init ++ codes "\n"))

abbrev pub export_line : ℕ → Export → List ℕ
export_line index e = item_text (codes "export") index ++ (named e.name ++ (codes " " ++ (kind_name e.kind ++ (spaced e.index ++ codes "\n"))))

abbrev pub start_line : Option ℕ → List ℕ
start_line None = []
start_line (Some x) = codes "Start:\n - start " ++ (decimal x ++ codes "\n")

abbrev pub elem_line : ℕ → Elem → List ℕ
elem_line index e =
    item_text (codes "elem") index
    ++ (field (codes " table=") e.table ++ (code_field (codes " offset=") e.offset ++ (codes " funcs=" ++ (joined decimal e.funcs ++ codes "\n"))))

abbrev pub code_size_line : ℕ → FuncOf → List ℕ
code_size_line index f = item_text (codes "func") index ++ (field (codes " size=") (length (written_body f.body)) ++ codes "\n")

abbrev pub data_line : ℕ → DataSeg → List ℕ
data_line index d =
    item_text (codes "data") index
    ++ (field (codes " memory=") d.memory ++ (code_field (codes " offset=") d.offset ++ (codes " bytes=" ++ (encode_lower d.bytes ++ codes "\n"))))

abbrev pub custom_details : Custom → List ℕ
custom_details c = codes "Custom:\n - custom " ++ (name_text c.name ++ (codes " bytes=" ++ (encode_lower c.bytes ++ codes "\n")))

-- ---- a section: its name and how many items it has, and its items; nothing where it has none

abbrev pub heading : ℕ → ℕ → List ℕ
heading id count = indexed (section_name id) count ++ codes ":\n"

abbrev pub with_heading : {A : Type 0} → ℕ → List A → List ℕ → List ℕ
with_heading id items lines = if is_empty items then [] else heading id (length items) ++ lines

abbrev pub group : {A : Type 0} → ℕ → (ℕ → A → List ℕ) → List A → List ℕ
group id text items = with_heading id items (numbered text 0 items)

-- imports, behind those before them
abbrev pub import_lines : List Import → List Import → List ℕ
import_lines before [] = []
import_lines before (i ∷ is) = import_line before i ++ import_lines (before ++ i ∷ []) is

abbrev pub section_details : Parts → SectionId → List ℕ
section_details m TypeSection = group (number TypeSection) type_line m.types
section_details m ImportSection = with_heading (number ImportSection) m.imports (import_lines [] m.imports)
section_details m FunctionSection = group (number FunctionSection) (λ n. func_line (count_of Func m.imports + n)) m.funcs
section_details m TableSection = group (number TableSection) (λ n. table_line (count_of Table m.imports + n)) m.tables
section_details m MemorySection = group (number MemorySection) (λ n. memory_line (count_of Memory m.imports + n)) m.memories
section_details m GlobalSection = group (number GlobalSection) (λ n. global_line (count_of Global m.imports + n)) m.globals
section_details m ExportSection = group (number ExportSection) export_line m.exports
section_details m StartSection = start_line m.start
section_details m ElementSection = group (number ElementSection) elem_line m.elems
section_details m CodeSection = group (number CodeSection) (λ n. code_size_line (count_of Func m.imports + n)) m.funcs
section_details m DataSection = group (number DataSection) data_line m.datas

abbrev pub details_by : Parts → Option SectionId → List ℕ
details_by m None = []
details_by m (Some k) = section_details m k

-- a section, and the custom sections behind it
abbrev pub details_of : Parts → ℕ → List ℕ
details_of m id = details_by m (of_number id) ++ flat_map custom_details (customs_of id m.customs)

abbrev pub details_text : Parts → List ℕ
details_text m = flat_map (details_of m) ids
