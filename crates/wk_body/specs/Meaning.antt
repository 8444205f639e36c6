-- What the calls that read promise, in terms of the grammar.
use Rattle.std.specs.Prelude.{◌≡◌, ◌≢◌, ◌≤◌, ℕ, List, ◌++◌, length, Result, Ok, Err}
use Rattle.wk_bytes.specs.declared.fault.ReadKind.TheVariants.{Memory}
use Rattle.wk_bytes.specs.declared.fault.ReadFault.{ReadFault}
use Rattle.wk_bytes.specs.LebLaws.{IsBytes}
use Rattle.wk_bytes.specs.Span.{Span}
use Rattle.wk_bytes.specs.Stands.{Stands}
use Rattle.wk_bytes.specs.StandsLaws.{ReadsFront}
use Rattle.wk_body.specs.declared.types.Profile.{Profile}
use Rattle.wk_body.specs.declared.types.Profile.TheVariants.{Core, Extended}
use Rattle.wk_body.specs.Reads.{FailsAs}
use Rattle.wk_body.specs.Written.{Fits}
use Rattle.wk_body.specs.Reading.{whole_at}

-- The bytes are no more than a module may have, and spell the value.
abbrev pub Whole : {V : Type 0} → (V → List ℕ → Type 0) → V → List ℕ → Type 0
Whole Spells v bytes = Fits bytes × Spells v bytes

-- Where the call answers, the bytes spell that value and no other. Where it refuses for another cause than memory, they
-- spell none.
abbrev pub FindsOnly : {X V : Type 0} → (X → V) → (V → List ℕ → Type 0) → List ℕ → Result X ReadFault → Type 0
FindsOnly {V = V} view Spells bytes (Ok x) = Whole Spells (view x) bytes × ((w : V) → Whole Spells w bytes → w ≡ view x)
FindsOnly {V = V} view Spells bytes (Err e) = e.kind ≢ Memory → (w : V) → Whole Spells w bytes → ⊥

-- A call that took a cursor from old to new answered what reading gives, and a refusal left it as it was.
abbrev pub Takes : {X Y : Type 0} → (X → Y) → (ℕ → List ℕ → Result (Y × List ℕ) ReadFault) → Span → Result X ReadFault → Span → Type 0
Takes view read old (Ok x) new = (read old.end old.rest ≡ Ok (view x, new.rest)) × (new.end ≡ old.end)
Takes view read old (Err e) new = FailsAs e e.kind (read old.end old.rest) × (new ≡ old)

-- The call moved past the one front of the bytes left that spells a value, and answered that value; or, where it refuses for
-- another cause than memory, no front spells one.
abbrev pub TakesOnly : {X V : Type 0} → (X → V) → (V → List ℕ → Type 0) → Span → Result X ReadFault → Span → Type 0
TakesOnly {V = V} view Spells old (Ok x) new =
    (b : List ℕ) × Spells (view x) b × (old.rest ≡ b ++ new.rest)
    × ((w : V) (c later : List ℕ) → Spells w c → old.rest ≡ c ++ later → (w ≡ view x) × (c ≡ b))
TakesOnly {V = V} view Spells old (Err e) new = e.kind ≢ Memory → (w : V) (c later : List ℕ) → Spells w c → old.rest ≡ c ++ later → ⊥

-- No spelling begins another, and no bytes spell two values.
abbrev pub SpellOnce : {V : Type 0} → (V → List ℕ → Type 0) → Type 0
SpellOnce {V = V} Spells = (v w : V) (a b x y : List ℕ) → Spells v a → Spells w b → a ++ x ≡ b ++ y → (v ≡ w) × (a ≡ b)

-- What is spelled in 1.0 is spelled so in the other profile too.
abbrev pub SpellAlike : {V : Type 0} → (Profile → V → List ℕ → Type 0) → Type 0
SpellAlike {V = V} Spells = (v : V) (bytes : List ℕ) → Spells Core v bytes → Spells Extended v bytes

-- Reading takes what is spelled: what it takes from the front is a spelling of what it gives; what is spelled in front is read,
-- wherever the bytes end and whatever follows; and a fault of it stands in the bytes.
pub record IsReadAs {V : Type 0} (Spells : V → List ℕ → Type 0) (read : ℕ → List ℕ → Result (V × List ℕ) ReadFault) : Type 0 where
  pub takes : (end : ℕ) (bytes : List ℕ) (v : V) (rest : List ℕ) → IsBytes bytes → read end bytes ≡ Ok (v, rest)
      → (front : List ℕ) × Spells v front × (bytes ≡ front ++ rest)
  pub again : (end : ℕ) (v : V) (bytes rest : List ℕ) → Spells v bytes → read end (bytes ++ rest) ≡ Ok (v, rest)
  pub stands : ReadsFront read

-- The same of reading that takes all of the bytes.
pub record IsAllReadAs {V : Type 0} (Spells : V → List ℕ → Type 0) (read : ℕ → List ℕ → Result V ReadFault) : Type 0 where
  pub takes : (end : ℕ) (bytes : List ℕ) (v : V) → IsBytes bytes → read end bytes ≡ Ok v → Spells v bytes
  pub again : (end : ℕ) (v : V) (bytes : List ℕ) → Spells v bytes → read end bytes ≡ Ok v
  pub stands : (end : ℕ) (bytes : List ℕ) (e : ReadFault) → read end bytes ≡ Err e → length bytes ≤ end → Stands (record { rest = bytes; end = end }) e

-- What reading a whole input gives is never want of memory: a call that answers that says nothing of the bytes, and any other
-- fault that it answers is of them.
abbrev pub NeverMemory : {V : Type 0} → (ℕ → List ℕ → Result V ReadFault) → Type 0
NeverMemory read = (bytes : List ℕ) (e : ReadFault) → whole_at read bytes ≡ Err e → e.kind ≢ Memory
