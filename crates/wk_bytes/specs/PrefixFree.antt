-- Spellings that can be told apart from the left.
use Rattle.std.specs.Prelude.{◌≡◌, ℕ, List, ◌++◌}

-- no spelling begins another, and a spelling has one value
abbrev pub IsPrefixFree : {V : Type 0} → (List ℕ → V → Type 0) → Type 0
IsPrefixFree {V = V} Spells = (a b x y : List ℕ) (m n : V) → Spells a m → Spells b n → a ++ x ≡ b ++ y → (a ≡ b) × (m ≡ n)
