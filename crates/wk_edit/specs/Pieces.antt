-- Bytes cut at a separator.
use Rattle.std.specs.Prelude.{ℕ, ◌==◌, Option, Some, None, List, []}
use Rattle.std.specs.List.{slice_split}

-- the pieces of the bytes between the separators, one more than there are of these
abbrev pub pieces : ℕ → List ℕ → List (List ℕ)
pieces separator bytes = slice_split (λ b. b == separator) bytes

-- the pieces of what is left, if anything is
abbrev pub pieces_left : ℕ → Option (List ℕ) → List (List ℕ)
pieces_left separator None = []
pieces_left separator (Some bytes) = pieces separator bytes
