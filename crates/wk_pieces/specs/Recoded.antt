-- The written form of a module with other codes in the place of its own.
use Rattle.std.specs.Prelude.{◌==◌, ℕ, if◌then◌else◌, List, ◌++◌}
use Rattle.std.specs.List.{flat_map}
use Rattle.wk_bytes.specs.Frames.{magic, version}
use Rattle.wk_module.specs.declared.types.Parts.{Parts}
use Rattle.wk_module.specs.Writing.{customs_at, ids, section_of}
use Rattle.wk_pieces.specs.Pieces.{code_section}

-- the section of an id, where the codes are these
abbrev pub section_with : Parts → List (List ℕ) → ℕ → List ℕ
section_with m codes id = if id == 10 then code_section codes else section_of m id

-- it, and the customs that stand behind it
abbrev pub place_with : Parts → List (List ℕ) → ℕ → List ℕ
place_with m codes id = section_with m codes id ++ customs_at id m.customs

-- the written form of a module with these codes in the place of its own
unfoldable pub encoded_with : Parts → List (List ℕ) → List ℕ
encoded_with m codes = (magic ++ version) ++ flat_map (place_with m codes) ids
