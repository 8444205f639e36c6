-- The lines that list the sections of a module.
use Rattle.std.specs.Prelude.{ℕ, Bool, true, false, List, [], ◌∷◌, ◌++◌, length, Result, Ok, Err, codes}
use Rattle.wk_bytes.specs.declared.fault.ReadFault.{ReadFault}
use Rattle.wk_bytes.specs.Frames.{Section}
use Rattle.wk_check.specs.VerdictLines.{malformed_text}
use Rattle.wk_list.specs.Headers.{header_text}

-- the line of a section: its name, where its contents start and end, and their length
abbrev pub section_line : Section → List ℕ
section_line s = header_text s.id s.at (length s.contents) ++ codes "\n"

abbrev pub item_line : Result Section ReadFault → List ℕ
item_line (Ok s) = section_line s
item_line (Err fault) = malformed_text fault

-- a line for each section, and for the fault
unfoldable pub listing : List (Result Section ReadFault) → List ℕ
listing [] = []
listing (item ∷ items) = item_line item ++ listing items

abbrev pub is_fault : Result Section ReadFault → Bool
is_fault (Ok s) = false
is_fault (Err fault) = true
