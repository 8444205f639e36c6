-- The contents of a list from which an item is taken.
use Rattle.std.specs.Prelude.{ℕ, ◌+◌, ◌-◌, ◌==◌, if◌then◌else◌, List, [], ◌++◌, length, take, drop}
use Rattle.wk_bytes.specs.Short.{short}

-- bytes without so many of them, behind those up to a place
abbrev pub cut : ℕ → ℕ → List ℕ → List ℕ
cut at size bytes = take at bytes ++ drop (at + size) bytes

-- contents of so many items without the one that has that many bytes and stands there behind the count, which is one less
abbrev pub without_item : List ℕ → ℕ → ℕ → ℕ → List ℕ
without_item contents count at size = if count == 1 then [] else short (count - 1) ++ cut at size (drop (length (short count)) contents)
