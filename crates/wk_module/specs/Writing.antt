-- The one written form of a module: each integer in its shortest spelling, empty sections left out.
use Rattle.std.specs.Prelude.{◌≡◌, ◌≤◌, ◌==◌, ℕ, if◌then◌else◌, Option, Some, None, List, [], ◌∷◌, ◌++◌, length, filter, not}
use Rattle.std.specs.List.{flat_map}
use Rattle.wk_bytes.specs.ListWords.{is_empty}
use Rattle.wk_bytes.specs.Short.{short}
use Rattle.wk_body.specs.Lengths.{limited}
use Rattle.wk_body.specs.Vectors.{written_vector}
use Rattle.wk_bytes.specs.Frames.{limit, magic, version}
use Rattle.wk_module.specs.declared.types.Custom.{Custom}
use Rattle.wk_module.specs.declared.types.Parts.{Parts}
use Rattle.wk_module.specs.Customs.{written_custom}
use Rattle.wk_module.specs.Sections.{SectionId, number, of_number, ContentsOf, SectionLists, contents, is_full, written_contents}
use Rattle.wk_module.specs.Shape.{lists_of}

-- a section of an id with those contents
abbrev pub framed : ℕ → List ℕ → List ℕ
framed id contents = id ∷ (short (length contents) ++ contents)

-- the contents of a section that is a vector, which is left out where it is empty
abbrev pub list_contents : {A : Type 0} → (A → List ℕ) → List A → List ℕ
list_contents written xs = if not (is_empty xs) then written_vector written xs else []

-- the contents of a section as they stand in the written form: nothing where it is left out
abbrev pub section_contents : (k : SectionId) → ContentsOf k → List ℕ
section_contents k x = if is_full k x then written_contents k x else []

-- a section, which is left out where it is empty
abbrev pub written_section : (k : SectionId) → ContentsOf k → List ℕ
written_section k x = if is_full k x then framed (number k) (written_contents k x) else []

-- the section of an id, which is nothing for ids that are not those of lists
abbrev pub section_by : SectionLists → Option SectionId → List ℕ
section_by l None = []
section_by l (Some k) = written_section k (contents l k)

-- the contents of the section of an id
abbrev pub contents_by : SectionLists → Option SectionId → List ℕ
contents_by l None = []
contents_by l (Some k) = section_contents k (contents l k)

abbrev pub section_of : Parts → ℕ → List ℕ
section_of m id = section_by (lists_of m) (of_number id)

-- the customs of a place, in order
abbrev pub customs_at : ℕ → List Custom → List ℕ
customs_at place customs = flat_map (λ c. framed 0 (written_custom c)) (filter (λ c. c.place == place) customs)

-- a section and the customs that stand behind it
abbrev pub section_and_customs : Parts → ℕ → List ℕ
section_and_customs m id = section_of m id ++ customs_at id m.customs

-- the ids of all sections, and before them the place of the customs that stand first
abbrev pub ids : List ℕ
ids = 0 ∷ 1 ∷ 2 ∷ 3 ∷ 4 ∷ 5 ∷ 6 ∷ 7 ∷ 8 ∷ 9 ∷ 10 ∷ 11 ∷ []

-- the written form
unfoldable pub encoded : Parts → List ℕ
encoded m = (magic ++ version) ++ flat_map (section_and_customs m) ids

-- the module fits
abbrev pub Fits : Parts → Type 0
Fits m = length (encoded m) ≤ limit

-- the length of the contents of a section, nothing past the limit or for ids of no section that holds lists
abbrev pub SectionLen : SectionLists → Option SectionId → Option ℕ → Type 0
SectionLen l None len = len ≡ None
SectionLen l (Some k) len = len ≡ limited (length (section_contents k (contents l k)))
