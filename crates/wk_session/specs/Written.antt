-- What a write that failed leaves, and how failures are counted.
use Rattle.std.specs.Prelude.{◌≡◌, ℕ, ◌+◌, Option, List, Result, Ok, Err}
use Rattle.wk_bytes.specs.Taken.{TakesFront}
use Rattle.wk_session.specs.declared.write.WriteFault.{WriteFault}
use Rattle.wk_session.specs.declared.write.WriteFault.TheVariants.{Write, Memory}

-- after a fault of the output a beginning of the bytes was taken; after want of memory nothing was
abbrev pub Leaves : Option (List ℕ) → Option (List ℕ) → List ℕ → WriteFault → Type 0
Leaves old new bytes Write = TakesFront old new bytes
Leaves old new bytes Memory = new ≡ old

-- the output fails once more where it is the cause, and not otherwise
abbrev pub failures_after_write : {A : Type 0} → ℕ → Result A WriteFault → ℕ
failures_after_write failures (Ok x) = failures
failures_after_write failures (Err Write) = failures + 1
failures_after_write failures (Err Memory) = failures
