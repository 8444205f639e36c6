-- How things are spelled one behind the other (5.1): in the grammar, and as they are read from left to right.
use Rattle.std.specs.Prelude.{◌≡◌, ℕ, ◌==◌, if◌then◌else◌, List, [], ◌∷◌, ◌++◌, length, Option, Result, Ok, Err}
use Rattle.wk_bytes.specs.declared.fault.ReadKind.TheVariants.{BadByte, SectionSize}
use Rattle.wk_bytes.specs.declared.fault.ReadFault.{ReadFault}
use Rattle.wk_bytes.specs.Leb.{◌>>=◌, or_fail, SpellsU}
use Rattle.wk_bytes.specs.Short.{short}
use Rattle.wk_bytes.specs.Span.{fault, byte_at, u32_at, piece_at}

-- Reads one thing at the front of bytes that end at an offset: the thing and the bytes after it, or the first fault.
abbrev pub Reader : Type 0 → Type 0
Reader A = ℕ → List ℕ → Result (A × List ℕ) ReadFault

-- ---- one thing behind another

pub record SpellsBoth {A B : Type 0} (SpellsFirst : List ℕ → A → Type 0) (SpellsSecond : List ℕ → B → Type 0) (b : List ℕ) (x : A × B) : Type 0 where
  pub front : List ℕ
  pub later : List ℕ
  pub parts : b ≡ front ++ later
  pub first : SpellsFirst front x.0
  pub second : SpellsSecond later x.1

unfoldable pub both_at : {A B : Type 0} → Reader A → Reader B → Reader (A × B)
both_at first second end bytes = do
  x ← first end bytes
  y ← second end x.1
  Ok ((x.0, y.0), y.1)

-- ---- a thing that begins with a key, which says how the rest of it is spelled

pub record SpellsKeyed {K A : Type 0} (key : A → K) (SpellsKey : List ℕ → K → Type 0) (SpellsRest : List ℕ → A → Type 0) (b : List ℕ) (x : A) : Type 0 where
  pub front : List ℕ
  pub later : List ℕ
  pub parts : b ≡ front ++ later
  pub keyed : SpellsKey front (key x)
  pub rest : SpellsRest later x

unfoldable pub keyed_at : {K A : Type 0} → Reader K → (K → Reader A) → Reader A
keyed_at key rest end bytes = do
  k ← key end bytes
  rest k.0 end k.1

-- ---- a thing that is made of another

unfoldable pub made_at : {A B : Type 0} → (A → B) → Reader A → Reader B
made_at make read end bytes = do
  x ← read end bytes
  Ok (make x.0, x.1)

-- ---- one byte, by a table

abbrev pub SpellsCoded : {A : Type 0} → (A → ℕ) → List ℕ → A → Type 0
SpellsCoded code b x = b ≡ code x ∷ []

unfoldable pub coded_at : {A : Type 0} → (ℕ → Option A) → Reader A
coded_at of_byte end bytes = do
  x ← byte_at end bytes
  t ← or_fail (of_byte x.0) (fault BadByte end bytes)
  Ok (t, x.1)

-- ---- a byte that has to be there, and a thing behind it

abbrev pub SpellsBehind : {A : Type 0} → ℕ → (List ℕ → A → Type 0) → List ℕ → A → Type 0
SpellsBehind byte Spells b x = (later : List ℕ) × (b ≡ byte ∷ later) × Spells later x

unfoldable pub this_byte_at : ℕ → Reader ℕ
this_byte_at wanted end bytes = do
  x ← byte_at end bytes
  if x.0 == wanted then Ok x else Err (fault BadByte end bytes)

unfoldable pub behind_at : {A : Type 0} → ℕ → Reader A → Reader A
behind_at byte read end bytes = do
  x ← this_byte_at byte end bytes
  read end x.1

-- ---- bytes behind their number

pub record SpellsBytes (b : List ℕ) (bytes : List ℕ) : Type 0 where
  pub size : List ℕ
  pub parts : b ≡ size ++ bytes
  pub counts : SpellsU 32 size (length bytes)

unfoldable pub bytes_at : Reader (List ℕ)
bytes_at end bytes = do
  n ← u32_at end bytes
  piece_at n.0 end n.1

abbrev pub written_bytes : List ℕ → List ℕ
written_bytes bytes = short (length bytes) ++ bytes

-- ---- the whole of some contents

-- what was read, where it took all of the bytes
abbrev pub taking_all : {A : Type 0} → ℕ → A × List ℕ → Result A ReadFault
taking_all end (x, []) = Ok x
taking_all end (x, y ∷ rest) = Err (fault SectionSize end (y ∷ rest))

-- all of a section's contents, read as one thing; left-over bytes are a fault
abbrev pub all_at : {A : Type 0} → Reader A → ℕ → List ℕ → Result A ReadFault
all_at read end bytes = read end bytes >>= taking_all end
