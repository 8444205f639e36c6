use Rattle.std.proofs.Common.{◌≡◌, Result, Ok, Err, refl, sym, ap, subst, inr, ◌∙◌}
use Rattle.wk_bytes.specs.declared.fault.ReadFault.{ReadFault}
use Rattle.wk_body.specs.Reads.{FailsAs, Reads}
use Rattle.wk_body.specs.ReadsLaws.{other_fault}
use Rattle.wk_module.specs.declared.types.Parts.{Parts}
use Rattle.wk_module.specs.ListReading.{IsReading}
use Rattle.wk_module.specs.Reading.{module_at}
use Rattle.wk_typing.specs.declared.fault.Verdict.{Verdict}
use Rattle.wk_judging.specs.Spelled.{judged}
use Rattle.wk_answers.specs.Validation.{printed, status_of}
use Rattle.wk_answers.proofs.validation.told.Goals as goal

-- where there is no verdict, there is no module
no_module : (read : Result Parts ReadFault) (e : ReadFault) → judged read ≡ Err e → read ≡ Err e
no_module (Ok m) e is = absurd cc
no_module (Err d) e is = cc

pub returns-in_ok-malformed_line-in-Err : goal.returns-in_ok-malformed_line-in-Err
returns-in_ok-malformed_line-in-Err c =
    let fault = c.in-Err.fault in
    let read = module_at c.args._profile c.args._bytes.now in
    let exact : FailsAs fault fault.kind (judged read) =
    subst (λ (v : Result Verdict ReadFault). Reads (λ (w : Verdict). w) v (judged read)) c.in-Err.is c.requires.exact in
    let is : read ≡ Err fault = no_module read fault (other_fault fault fault.kind (judged read) c.in_default.not-Memory exact) in
    let told : IsReading c.args._profile c.args._bytes.now (Err fault) = subst (IsReading c.args._profile c.args._bytes.now) is c.requires.is in
    record {
      line = c.in_ok-malformed_line-in-Err.ensures ∙ sym (ap printed is);
      means = inr (record {
        none = told.0;
        fault = fault;
        known = c.in_default.not-Memory;
        stands = told.1;
        first = told.2;
        line_is = c.in_ok-malformed_line-in-Err.ensures;
        status_is = refl;
      });
      status = sym (ap status_of is);
      known = rw c.in-Err.is c.in_default.not-Memory;
    }
