use Rattle.std.proofs.Common.{◌≤◌, length, subst, ◌∙◌}
use Rattle.std.proofs.lemmas.Result.{err_from_is_err_and}
use Rattle.wk_bytes.specs.Span.{Span}
use Rattle.wk_bytes.specs.Stands.{StandsOrMemory}
use Rattle.wk_module.proofs.Standing.{code_stands}
use Rattle.wk_module.proofs.section_reader.CodeReader.next.Goals as goal

pub returns-in_err-body-clause-stands : goal.returns-in_err-body-clause-stands
returns-in_err-body-clause-stands c =
    let p = err_from_is_err_and c.from_residual-in_err-body.result c.from_residual-in_err-body.ensures.1 in
    let e = c.in_err-body.field-0.0 in
    let fits : length c.ahead.result.rest ≤ c.ahead.result.end = rw c.ahead.ensures.same c.ahead.ensures.fits in
    let stood = code_stands c.ahead.result c.next_code.new.self c.in_ok-code.code e c.in_ok-code.ensures.exact c.in_ok-code.ensures.place fits
    c.in_err-body.ensures.fault in
    rw (p.1, p.2) (subst (λ (s : Span). StandsOrMemory s e) (c.ahead.ensures.same ∙ c.self.view_is) stood)
