-- What a call that reads, and that may want memory, answers.
use Rattle.std.specs.Prelude.{◌≡◌, ℕ, List, Result, Ok, Err}
use Rattle.wk_bytes.specs.declared.fault.ReadKind.{ReadKind}
use Rattle.wk_bytes.specs.declared.fault.ReadKind.TheVariants.{Memory}
use Rattle.wk_bytes.specs.declared.fault.ReadFault.{ReadFault}
use Rattle.wk_bytes.specs.Span.{Span}

-- want of memory lies at 0 and says nothing of what reading gives; any other fault is the one that it gives
abbrev pub FailsAs : {Y : Type 0} → ReadFault → ReadKind → Result Y ReadFault → Type 0
FailsAs e Memory read = e.at ≡ 0
FailsAs e _ read = read ≡ Err e

-- A call that took a cursor from old to new answered what reading gives, seen by view.
abbrev pub Parses : {X Y : Type 0} → (X → Y) → (ℕ → List ℕ → Result (Y × List ℕ) ReadFault) → Span → Result X ReadFault → Span → Type 0
Parses view read old (Ok x) new = (read old.end old.rest ≡ Ok (view x, new.rest)) × (new.end ≡ old.end)
Parses view read old (Err e) new = FailsAs e e.kind (read old.end old.rest)

-- The same of a call that leaves nothing.
abbrev pub Reads : {X Y : Type 0} → (X → Y) → Result X ReadFault → Result Y ReadFault → Type 0
Reads view (Ok x) read = read ≡ Ok (view x)
Reads view (Err e) read = FailsAs e e.kind read
