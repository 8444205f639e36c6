use Rattle.std.proofs.Common.{◌≡◌, ◌≢◌, Result, ap, subst, ◌∙◌}
use Rattle.std.specs.Prelude.{IfErr}
use Rattle.wk_bytes.specs.declared.fault.ReadKind.TheVariants.{Memory}
use Rattle.wk_bytes.specs.declared.fault.ReadFault.{ReadFault}
use Rattle.wk_body.specs.Reads.{Reads}
use Rattle.wk_module.specs.declared.types.Parts.{Parts}
use Rattle.wk_module.specs.Modules.{Spells}
use Rattle.wk_typing.specs.declared.fault.Verdict.{Verdict}
use Rattle.wk_typing.specs.declared.fault.Verdict.TheVariants.{Invalid}
use Rattle.wk_judging.specs.Spelled.{judged}
use Rattle.wk_check.specs.Verdict.{module_verdict}
use Rattle.wk_answers.specs.Explaining.{Puts, TellsBody, TellsMore, TellsPlace}
use Rattle.wk_answers.specs.JudgingLaws.{verdict_is}
use Rattle.wk_answers.proofs.Telling.{all_on_ok, one_on_ok, told_fault, told_verdict}
use Rattle.wk_answers.proofs.explaining.put_more.Goals as goal

pub returns-in-Invalid : goal.returns-in-Invalid
returns-in-Invalid c read is reads known =
    let b = c.args.bytes.now in
    let old = c.args.text.now.items in
    let new = c.put_place.new.text.items in
    let fault = c.in-Invalid.fault in
    let exact = subst (λ v. Reads (λ (w : Verdict). w) v (judged read)) c.in-Ok.is reads ∙ ap verdict_is c.in-Invalid.is in
    all_on_ok c.put_place.result (λ (m : Parts). (m.profile ≡ c.args.profile) × Spells b m × (module_verdict m ≡ Invalid fault))
    (λ m. Puts (TellsPlace c.args.profile b m fault) old new) (Puts (TellsMore c.args.profile b read) old new)
    (λ m of. c.put_place.ensures m of.0 of.1 of.2)
    (λ all. told_verdict c.args.profile b old new read (Invalid fault) is exact (λ m of s v. all m (of, s, v)))

pub returns-in-Err : goal.returns-in-Err
returns-in-Err c read is reads known =
    let b = c.args.bytes.now in
    let old = c.args.text.now.items in
    let new = c.put_body.new.text.items in
    let fault = c.in-Err.fault in
    let fails = subst (λ v. Reads (λ (w : Verdict). w) v (judged read)) c.in-Err.is reads in
    let other = subst (λ (v : Result Verdict ReadFault). IfErr v (λ e. e.kind ≢ Memory)) c.in-Err.is known in
    one_on_ok c.put_body.result (Puts (TellsBody c.args.profile b fault) old new) (Puts (TellsMore c.args.profile b read) old new) c.put_body.ensures
    (told_fault c.args.profile b old new read fault fails other)
