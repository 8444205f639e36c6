-- The contents of a list to which an item comes.
use Rattle.std.specs.Prelude.{◌≡◌, ◌≤◌, ℕ, ◌+◌, List, [], ◌++◌, length, drop, set, get_or}
use Rattle.wk_bytes.specs.Short.{short}
use Rattle.wk_module.specs.declared.types.Parts.{Parts}
use Rattle.wk_pieces.specs.Pieces.{section_piece, section_pieces}

-- contents of so many items with one more behind them, of which the count in front is one more
abbrev pub with_item : List ℕ → ℕ → List ℕ → List ℕ
with_item contents count item = short (count + 1) ++ (drop (length (short count)) contents ++ item)

-- Of so many items in the section of an id one more makes the sections of n: the one that stands behind the count in the contents of a
-- list of it alone.
pub record IsLonger (id count : ℕ) (alone : List ℕ) (pieces : List (List ℕ)) (n : Parts) : Type 0 where
  pub sections : set pieces id (with_item (get_or pieces id []) count (drop 1 alone)) ≡ section_pieces n
  pub within : length alone ≤ length (section_piece id n)
