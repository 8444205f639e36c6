use Rattle.std.proofs.Common.{◌≡◌, ◌≢◌, Result, ap, subst, ◌∙◌}
use Rattle.std.specs.Prelude.{IfErr}
use Rattle.wk_bytes.specs.declared.fault.ReadKind.TheVariants.{Memory}
use Rattle.wk_bytes.specs.declared.fault.ReadFault.{ReadFault}
use Rattle.wk_body.specs.Reads.{Reads}
use Rattle.wk_module.specs.declared.types.Parts.{Parts}
use Rattle.wk_module.specs.Modules.{Spells}
use Rattle.wk_typing.specs.declared.fault.Verdict.{Verdict}
use Rattle.wk_typing.specs.declared.fault.Verdict.TheVariants.{Invalid}
use Rattle.wk_judging.specs.Spelled.{judged}
use Rattle.wk_check.specs.Verdict.{module_verdict}
use Rattle.wk_ffi.specs.Numbers.{AreOfFault, AreOfRead}
use Rattle.wk_answers.specs.JudgingLaws.{verdict_is}
use Rattle.wk_ffi.proofs.Located.{all_if_ok, of_no_module, of_verdict}
use Rattle.wk_ffi.proofs.locating.numbers_of.Goals as goal

pub returns-in-Invalid : goal.returns-in-Invalid
returns-in-Invalid c read is reads known =
    let b = c.args.bytes.now in
    let fault = c.in-Invalid.fault in
    let exact = subst (λ v. Reads (λ (w : Verdict). w) v (judged read)) c.in-Ok.is reads ∙ ap verdict_is c.in-Invalid.is in
    all_if_ok c.of_fault.result (λ (m : Parts). (m.profile ≡ c.args.profile) × Spells b m × (module_verdict m ≡ Invalid fault)) (λ m n. AreOfFault c.args.profile b m fault n)
    (λ n. AreOfRead c.args.profile b read n) (λ m of. c.of_fault.ensures m of.0 of.1 of.2)
    (λ n all. of_verdict c.args.profile b n read (Invalid fault) is exact all)

pub returns-in_ok-func-in-Err : goal.returns-in_ok-func-in-Err
returns-in_ok-func-in-Err c read is reads known =
    let fault = c.in-Err.fault in
    let fails = subst (λ v. Reads (λ (w : Verdict). w) v (judged read)) c.in-Err.is reads in
    let other = subst (λ (v : Result Verdict ReadFault). IfErr v (λ e. e.kind ≢ Memory)) c.in-Err.is known in
    of_no_module c.args.profile c.args.bytes.now c.of_malformed.result read fault fails other c.in_ok-func-in-Err.func c.in_ok-func-in-Err.ensures
    c.of_malformed.ensures
