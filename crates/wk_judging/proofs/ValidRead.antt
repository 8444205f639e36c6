-- The verdict of what is read is valid exactly where the module is.
use Rattle.std.proofs.Common.{◌≡◌, Result, Ok, Err, IfOk}
use Rattle.std.specs.Prelude.{◌↔◌}
use Rattle.wk_bytes.specs.declared.fault.ReadFault.{ReadFault}
use Rattle.wk_body.specs.Reads.{Reads}
use Rattle.wk_module.specs.declared.types.Parts.{Parts}
use Rattle.wk_typing.specs.declared.fault.Verdict.{Verdict}
use Rattle.wk_typing.specs.declared.fault.Verdict.TheVariants.{Valid}
use Rattle.wk_check.proofs.Valid.{valid_exactly}
use Rattle.wk_judging.specs.Spelled.{judged, IsValidRead}
use Rattle.wk_judging.proofs.JudgedCodes.{told_meaning}

pub read_exactly : (read : Result Parts ReadFault) (answer : Result Verdict ReadFault) → Reads (λ v. v) answer (judged read)
    → IfOk answer (λ v. v ≡ Valid ↔ IsValidRead read)
read_exactly (Ok m) (Ok v) reads = valid_exactly m v (told_meaning (Ok m) (Ok v) reads)
read_exactly (Err e) (Ok v) reads = absurd cc
read_exactly read (Err e) reads = tt
