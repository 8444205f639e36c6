-- What stands in a module beside integers: bytes, pieces, words and names, and what spells them.
use Rattle.std.specs.Prelude.{◌≡◌, ℕ, List, [], ◌∷◌, ◌++◌, length}
use Rattle.std.specs.Str.{IsUtf8}
use Rattle.byteorder.specs.Endian.{little_number}
use Rattle.wk_bytes.specs.Leb.{SpellsU}

-- a byte spells itself (5.2.1)
abbrev pub SpellsByte : List ℕ → ℕ → Type 0
SpellsByte b x = b ≡ x ∷ []

-- a piece of n bytes spells itself
abbrev pub SpellsPiece : ℕ → List ℕ → List ℕ → Type 0
SpellsPiece n b piece = (b ≡ piece) × (length piece ≡ n)

-- n bytes spell a word, the lowest first (5.2.3)
abbrev pub SpellsWord : ℕ → List ℕ → ℕ → Type 0
SpellsWord n b w = (length b ≡ n) × (w ≡ little_number n b)

-- a name is its length, and then that many bytes of UTF-8 (5.2.4)
pub record SpellsName (b text : List ℕ) : Type 0 where
  pub size : List ℕ
  pub counts : SpellsU 32 size (length text)
  pub parts : b ≡ size ++ text
  pub utf8 : IsUtf8 text
