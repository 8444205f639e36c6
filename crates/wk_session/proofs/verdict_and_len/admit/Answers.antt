use Rattle.std.proofs.Common.{sym, ◌∙◌}
use Rattle.std.proofs.lemmas.Result.{err_from_is_err_and}
use Rattle.wk_module.specs.Shape.{settle}
use Rattle.wk_session.proofs.Appraising.{fitting_stands}
use Rattle.wk_session.proofs.Leading.{too_large}
use Rattle.wk_session.proofs.verdict_and_len.admit.Goals as goal

pub returns-in_default-clause-appraised : goal.returns-in_default-clause-appraised
returns-in_default-clause-appraised c =
    λ n formed verdict len other. too_large c.args.keep n formed.order (sym c.in_default.is ∙ len)

pub returns-in_err-check_verdict-clause-appraised : goal.returns-in_err-check_verdict-clause-appraised
returns-in_err-check_verdict-clause-appraised c =
    let p = err_from_is_err_and c.from_residual.result c.from_residual.ensures.1 in
    rw (p.1, p.2) (λ n formed verdict len other.
    fitting_stands c.args.keep n formed.order c.in-Some.len (sym len ∙ c.in-Some.is) ∙ c.in_err-check_verdict.ensures.1 (settle n) (sym verdict))

pub returns-clause-appraised : goal.returns-clause-appraised
returns-clause-appraised c =
    λ n formed verdict len.
    let some = sym len ∙ c.in-Some.is in
    (fitting_stands c.args.keep n formed.order c.in-Some.len some ∙ c.in_ok-check_verdict.ensures (settle n) (sym verdict), verdict, some)
