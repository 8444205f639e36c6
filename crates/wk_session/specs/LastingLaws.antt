-- A valid module is valid after edits that have to leave a valid one.
use Rattle.std.proofs.Common.{◌≡◌, Bool, true, false, List, [], ◌∷◌, Result, Ok, Err, refl}
use Rattle.wk_bytes.specs.Leb.{◌>>=◌}
use Rattle.wk_module.specs.declared.types.Parts.{Parts}
use Rattle.wk_typing.specs.declared.fault.Verdict.{Verdict}
use Rattle.wk_typing.specs.declared.fault.Verdict.TheVariants.{Valid, Invalid}
use Rattle.wk_check.specs.Verdict.{module_verdict}
use Rattle.wk_session.specs.declared.edit.Edit.{Edit}
use Rattle.wk_session.specs.declared.edit.EditFault.{EditFault}
use Rattle.wk_session.specs.Edits.{edited, lasting, unbroken}
use Rattle.wk_session.specs.Runs.{left_by, after_one, after}

unbroken_valid : (m n : Parts) (v : Verdict) → module_verdict m ≡ Valid → module_verdict n ≡ v → module_verdict (left_by m (unbroken n v)) ≡ Valid
unbroken_valid m n Valid was is = is
unbroken_valid m n (Invalid f) was is = was

lasting_valid : (m : Parts) (r : Result Parts EditFault) → module_verdict m ≡ Valid → module_verdict (left_by m (r >>= lasting true)) ≡ Valid
lasting_valid m (Ok n) was = unbroken_valid m n (module_verdict n) was refl
lasting_valid m (Err f) was = was

one_valid : (e : Edit) (x : Bool) (m : Parts) → module_verdict m ≡ Valid → module_verdict (after_one true e x m) ≡ Valid
one_valid e true m was = was
one_valid e false m was = lasting_valid m (edited e m) was

pub stays_valid : (es : List Edit) (xs : List Bool) (m : Parts) → module_verdict m ≡ Valid → module_verdict (after true es xs m) ≡ Valid
stays_valid [] xs m was = was
stays_valid (e ∷ es) [] m was = stays_valid es [] (after_one true e false m) (one_valid e false m was)
stays_valid (e ∷ es) (x ∷ xs) m was = stays_valid es xs (after_one true e x m) (one_valid e x m was)
