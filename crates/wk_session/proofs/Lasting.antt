-- The module of a run of edits that have to leave a valid one is valid where it was.
use Rattle.std.proofs.Common.{◌≡◌, Bool, true, List, Result, Ok, Err, ap, ◌∙◌}
use Rattle.std.specs.Prelude.{IfOk, OnErr}
use Rattle.wk_module.specs.declared.types.Parts.{Parts}
use Rattle.wk_typing.specs.declared.fault.Verdict.TheVariants.{Valid}
use Rattle.wk_check.specs.Verdict.{module_verdict}
use Rattle.wk_session.specs.declared.edit.Edit.{Edit}
use Rattle.wk_session.specs.LastingLaws.{stays_valid}
use Rattle.wk_session.specs.Runs.{after}

pub run_valid : {A E : Type 0} (r : Result A E) (es : List Edit) (marks : A → List Bool) (m n : Parts) → IfOk r (λ a. n ≡ after true es (marks a) m)
    → OnErr r (n ≡ m) → module_verdict m ≡ Valid → module_verdict n ≡ Valid
run_valid (Ok a) es marks m n is err was = ap module_verdict is ∙ stays_valid es (marks a) m was
run_valid (Err e) es marks m n is err was = ap module_verdict err ∙ was
