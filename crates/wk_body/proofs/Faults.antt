-- Faults of the integers that a reader takes.
use Rattle.std.proofs.Common.{◌≡◌, ℕ, List, Option, Result, Err}
use Rattle.wk_bytes.specs.declared.fault.ReadKind.{ReadKind}
use Rattle.wk_bytes.specs.declared.fault.ReadKind.TheVariants.{Memory}
use Rattle.wk_bytes.specs.declared.fault.ReadFault.{ReadFault}
use Rattle.wk_bytes.specs.Leb.{IsIntKind}
use Rattle.wk_body.specs.Reads.{FailsAs}

-- a fault of an integer is no want of memory
pub fails_int : {V Y : Type 0} (last : ℕ → ℕ → Option V) (size : ℕ) (bytes : List ℕ) (e : ReadFault) (kind : ReadKind) (read : Result Y ReadFault)
    → IsIntKind last size bytes kind → read ≡ Err e → FailsAs e kind read
fails_int last size bytes e Memory read i h = absurd i
fails_int last size bytes e kind read i h = h
