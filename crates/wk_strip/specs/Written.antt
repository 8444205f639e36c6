-- The written form of a module in the pieces that it is made of.
use Rattle.std.specs.Prelude.{◌+◌, ◌==◌, ◌<◌, ◌≤◌, ℕ, if◌then◌else◌, List, [], ◌∷◌, ◌++◌, length}
use Rattle.std.specs.List.{flat_map, range_with_len}
use Rattle.wk_bytes.specs.Frames.{limit}
use Rattle.wk_bytes.specs.Short.{short}
use Rattle.wk_module.specs.declared.types.Custom.{Custom}
use Rattle.wk_module.specs.Sections.{SectionLists, of_number}
use Rattle.wk_module.specs.Writing.{section_by, contents_by, customs_at}

-- the section of an id, and the customs that stand behind it
abbrev pub section_with : SectionLists → List Custom → ℕ → List ℕ
section_with l cs id = section_by l (of_number id) ++ customs_at id cs

-- those of that many ids, from the first on
abbrev pub sections_from : SectionLists → List Custom → ℕ → ℕ → List ℕ
sections_from l cs first count = flat_map (section_with l cs) (range_with_len first count)

-- the contents of one of those sections are longer than a module may be
abbrev pub IsTooLong : SectionLists → ℕ → ℕ → Type 0
IsTooLong l first end = (id : ℕ) × (first ≤ id) × (id < end) × (limit < length (contents_by l (of_number id)))

-- what stands in front of so many codes that are so long together, in a code section: its id, its size and their number
abbrev pub code_front : ℕ → ℕ → List ℕ
code_front count size = if count == 0 then [] else 10 ∷ (short (length (short count) + size) ++ short count)
