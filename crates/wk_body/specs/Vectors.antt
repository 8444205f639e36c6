-- Vectors (5.1.3): a count, and as many items.
use Rattle.std.specs.Prelude.{◌≡◌, ℕ, zero, suc, List, [], ◌∷◌, ◌++◌, length, Result, Ok}
use Rattle.std.specs.List.{flat_map}
use Rattle.wk_bytes.specs.declared.fault.ReadFault.{ReadFault}
use Rattle.wk_bytes.specs.Leb.{◌>>=◌, SpellsU}
use Rattle.wk_bytes.specs.Short.{short}
use Rattle.wk_bytes.specs.Span.{u32_at}

-- ---- in the grammar, where `Spells` says which bytes spell an item

-- the bytes are spellings of the items, one after the other
abbrev pub SpellsItems : {A : Type 0} → (List ℕ → A → Type 0) → List ℕ → List A → Type 0
SpellsItems Spells b [] = b ≡ []
SpellsItems Spells b (x ∷ xs) = (front later : List ℕ) × (b ≡ front ++ later) × Spells front x × SpellsItems Spells later xs

-- the bytes are a count and that many items
pub record SpellsVector {A : Type 0} (Spells : List ℕ → A → Type 0) (b : List ℕ) (xs : List A) : Type 0 where
  pub count : List ℕ
  pub items : List ℕ
  pub parts : b ≡ count ++ items
  pub counts : SpellsU 32 count (length xs)
  pub spelled : SpellsItems Spells items xs

-- ---- as they are read, where `read` reads an item at the front of bytes that end at an offset

abbrev pub items_at : {A : Type 0} → (ℕ → List ℕ → Result (A × List ℕ) ReadFault) → ℕ → ℕ → List ℕ → Result (List A × List ℕ) ReadFault
items_at read zero end bytes = Ok ([], bytes)
items_at read (suc n) end bytes = do
  x ← read end bytes
  xs ← items_at read n end x.1
  Ok (x.0 ∷ xs.0, xs.1)

unfoldable pub vector_at : {A : Type 0} → (ℕ → List ℕ → Result (A × List ℕ) ReadFault) → ℕ → List ℕ → Result (List A × List ℕ) ReadFault
vector_at read end bytes = do
  n ← u32_at end bytes
  items_at read n.0 end n.1

-- ---- as they are written, where `written` gives the bytes of an item

abbrev pub written_vector : {A : Type 0} → (A → List ℕ) → List A → List ℕ
written_vector written xs = short (length xs) ++ flat_map written xs
