-- The headers listing: a line for each section of the written form.
use Rattle.std.specs.Prelude.{ℕ, ◌+◌, ◌-◌, ◌==◌, if◌then◌else◌, Option, Some, None, List, [], ◌∷◌, ◌++◌, length, filter, replicate, codes, decimal}
use Rattle.std.specs.Prelude.{slice_index_or}
use Rattle.wk_bytes.specs.FaultText.{offset_text}
use Rattle.wk_bytes.specs.Short.{short}
use Rattle.wk_module.specs.declared.types.Custom.{Custom}
use Rattle.wk_module.specs.declared.types.Parts.{Parts}
use Rattle.wk_module.specs.Customs.{written_custom}
use Rattle.wk_module.specs.Sections.{SectionId, TypeSection, ImportSection, FunctionSection, TableSection, MemorySection, GlobalSection, ExportSection}
use Rattle.wk_module.specs.Sections.{StartSection, ElementSection, CodeSection, DataSection, number, of_number, contents, is_full}
use Rattle.wk_module.specs.Shape.{lists_of}
use Rattle.wk_module.specs.Writing.{framed, section_contents, section_of, section_and_customs, ids}
use Rattle.wk_list.specs.Text.{name_text}

-- ---- one line

-- the names of sections by their ids
abbrev pub section_names : List (List ℕ)
section_names =
    codes "Custom" ∷ codes "Type" ∷ codes "Import" ∷ codes "Function" ∷ codes "Table" ∷ codes "Memory" ∷ codes "Global" ∷ codes "Export"
    ∷ codes "Start" ∷ codes "Elem" ∷ codes "Code" ∷ codes "Data" ∷ []

abbrev pub section_name : ℕ → List ℕ
section_name id = slice_index_or section_names id []

-- a text right-aligned in eight places
abbrev pub in_eight : List ℕ → List ℕ
in_eight text = replicate (8 - length text) 32 ++ text

-- the section of an id: where its contents start and end, and how long they are
abbrev pub header_text : ℕ → ℕ → ℕ → List ℕ
header_text id start size =
    in_eight (section_name id)
    ++ (codes " start=" ++ (offset_text start ++ (codes " end=" ++ (offset_text (start + size) ++ (codes " size=" ++ offset_text size)))))

-- ---- what stands behind the size

abbrev pub count_text : ℕ → List ℕ
count_text n = codes " count=" ++ decimal n

abbrev pub start_text : Option ℕ → List ℕ
start_text None = []
start_text (Some x) = codes " index=" ++ decimal x

-- how many items the section has, or for the start section the function's index
abbrev pub header_tail : Parts → SectionId → List ℕ
header_tail m TypeSection = count_text (length m.types)
header_tail m ImportSection = count_text (length m.imports)
header_tail m FunctionSection = count_text (length m.funcs)
header_tail m TableSection = count_text (length m.tables)
header_tail m MemorySection = count_text (length m.memories)
header_tail m GlobalSection = count_text (length m.globals)
header_tail m ExportSection = count_text (length m.exports)
header_tail m StartSection = start_text m.start
header_tail m ElementSection = count_text (length m.elems)
header_tail m CodeSection = count_text (length m.funcs)
header_tail m DataSection = count_text (length m.datas)

-- what stands there in the line of the section of an id, which is nothing for ids that are not those of lists
abbrev pub tail_by : Parts → Option SectionId → List ℕ
tail_by m None = []
tail_by m (Some k) = header_tail m k

-- ---- all lines, by where each section begins in the written form

-- the texts of items one after the other, each told where its bytes begin
abbrev pub placed : {A : Type 0} → (A → List ℕ) → (ℕ → A → List ℕ) → ℕ → List A → List ℕ
placed bytes text at [] = []
placed bytes text at (x ∷ xs) = text at x ++ placed bytes text (at + length (bytes x)) xs

-- where the contents of a section start that begins at an offset: behind its id and its size
abbrev pub contents_start : ℕ → ℕ → ℕ
contents_start at size = at + 1 + length (short size)

abbrev pub header_line : ℕ → ℕ → ℕ → List ℕ → List ℕ
header_line id at size tail = header_text id (contents_start at size) size ++ (tail ++ codes "\n")

-- the line of a section that begins at an offset; none where it is left out
abbrev pub section_header : Parts → ℕ → SectionId → List ℕ
section_header m at k =
    if is_full k (contents (lists_of m) k)
    then header_line (number k) at (length (section_contents k (contents (lists_of m) k))) (header_tail m k)
    else []

-- the line of the section of an id, which is none for ids that are not those of lists
abbrev pub header_by : Parts → ℕ → Option SectionId → List ℕ
header_by m at None = []
header_by m at (Some k) = section_header m at k

abbrev pub custom_frame : Custom → List ℕ
custom_frame c = framed 0 (written_custom c)

abbrev pub custom_header : ℕ → Custom → List ℕ
custom_header at c = header_line 0 at (length (written_custom c)) (codes " name=" ++ name_text c.name)

-- the custom sections of a place
abbrev pub customs_of : ℕ → List Custom → List Custom
customs_of place customs = filter (λ c. c.place == place) customs

-- the lines of a section that begins at an offset, and of the custom sections behind it
abbrev pub headers_of : Parts → ℕ → ℕ → List ℕ
headers_of m at id = header_by m at (of_number id) ++ placed custom_frame custom_header (at + length (section_of m id)) (customs_of id m.customs)

-- the sections begin behind the magic and the version
abbrev pub headers_text : Parts → List ℕ
headers_text m = placed (section_and_customs m) (headers_of m) 8 ids
