use Rattle.std.proofs.Common.{◌≡◌, [], refl, sym, ap, ◌∙◌, subst}
use Rattle.std.proofs.lemmas.Result.{IfOk-weaker}
use Rattle.wk_module.specs.declared.types.Parts.{Parts}
use Rattle.wk_typing.specs.declared.fault.Verdict.{Verdict}
use Rattle.wk_check.specs.Verdict.{module_verdict, IsVerdict, IsNotArity, extended}
use Rattle.wk_check.proofs.Flaws.{verdict_of_lists, module_verdict_told, verdict_extended}
use Rattle.wk_check.proofs.Valid.{valid_exactly}
use Rattle.wk_module.specs.Listed.{AreNumbered}
use Rattle.wk_module.specs.NumberedLaws.{funcs_numbered, module_numbered_with}
use Rattle.wk_module.specs.Sections.{FunctionSection}
use Rattle.wk_module.specs.Shape.{lists_of, IsShaped}
use Rattle.wk_check.proofs.judging.judge.Goals as goal

are_numbered : (m : Parts) → IsShaped m → AreNumbered (record (lists_of m) { codes = [] })
are_numbered m shaped = module_numbered_with (lists_of m).funcs m (shaped.formed.valid FunctionSection).0 shaped.formed

abbrev IsKept : Parts → Verdict → Type 0
IsKept m verdict = IsNotArity verdict → module_verdict (extended m) ≡ verdict

pub fault_up_to_code-requires-clause-few : goal.fault_up_to_code-requires-clause-few
fault_up_to_code-requires-clause-few c = rw c.parts-parts.ensures.value (funcs_numbered c.args.module.now c.parts-parts.ensures.shaped.formed)

pub fault_up_to_code-requires-clause-numbered : goal.fault_up_to_code-requires-clause-numbered
fault_up_to_code-requires-clause-numbered c = rw (c.in_ok-whole.ensures, c.lists_of-lists.ensures.lists, c.parts-parts.ensures.value)
    (are_numbered c.args.module.now c.parts-parts.ensures.shaped)

pub verdict_behind-requires : goal.verdict_behind-requires
verdict_behind-requires c = rw (c.in_ok-whole.ensures, c.lists_of-lists.ensures.lists, c.parts-parts.ensures.value)
    (are_numbered c.args.module.now c.parts-parts.ensures.shaped)

pub returns-clause-exact : goal.returns-clause-exact
returns-clause-exact c =
    let parts = c.parts-parts.result.now in
    let is = verdict_of_lists parts parts.profile c.in_ok-whole.whole c.in_ok-fault.fault refl
    (c.in_ok-whole.ensures ∙ c.lists_of-lists.ensures.lists) c.in_ok-fault.ensures in
    IfOk-weaker c.verdict_behind.result _ _ (λ v e. e ∙ (is ∙ ap module_verdict c.parts-parts.ensures.value)) c.verdict_behind.ensures

pub returns-clause-meaning : goal.returns-clause-meaning
returns-clause-meaning c =
    let m = c.args.module.now in
    IfOk-weaker c.verdict_behind.result (λ v. v ≡ module_verdict m) (IsVerdict m) (λ v e. subst (IsVerdict m) (sym e) (module_verdict_told m))
    (returns-clause-exact c)

pub returns-clause-valid : goal.returns-clause-valid
returns-clause-valid c =
    let m = c.args.module.now in
    IfOk-weaker c.verdict_behind.result (IsVerdict m) _ (valid_exactly m) (returns-clause-meaning c)

pub returns-clause-extended : goal.returns-clause-extended
returns-clause-extended c =
    let m = c.args.module.now in
    IfOk-weaker c.verdict_behind.result (λ v. v ≡ module_verdict m) (IsKept m) (λ v e. subst (IsKept m) (sym e) (verdict_extended m)) (returns-clause-exact c)
