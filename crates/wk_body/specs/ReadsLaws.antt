-- Faults that pass through the steps of a reader.
use Rattle.std.proofs.Common.{◌≡◌, ◌≢◌, Result, Err, refl}
use Rattle.wk_bytes.specs.declared.fault.ReadKind.{ReadKind}
use Rattle.wk_bytes.specs.declared.fault.ReadKind.TheVariants.{Memory}
use Rattle.wk_bytes.specs.declared.fault.ReadFault.{ReadFault}
use Rattle.wk_body.specs.Reads.{FailsAs}

-- a fault of a step is one of the whole
pub fails_on : {Y Z : Type 0} (e : ReadFault) (kind : ReadKind) (step : Result Y ReadFault) (whole : Result Z ReadFault)
    → (step ≡ Err e → whole ≡ Err e) → FailsAs e kind step → FailsAs e kind whole
fails_on e Memory step whole f h = h
fails_on e _ step whole f h = f h

-- a refusal for another cause than memory is what reading gives
pub other_fault : {Y : Type 0} (e : ReadFault) (kind : ReadKind) (read : Result Y ReadFault) → kind ≢ Memory → FailsAs e kind read → read ≡ Err e
other_fault e Memory read other fails = absurd (other refl)
other_fault e _ read other fails = fails
