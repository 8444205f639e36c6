use Rattle.std.proofs.Common.{◌≡◌, List, Option, map, ap, subst, sym, ◌∙◌}
use Rattle.std.specs.Prelude.{IfSome}
use Rattle.wk_module.specs.Listed.{listed}
use Rattle.wk_typing.specs.declared.fault.BodyVerdict.{BodyVerdict}
use Rattle.wk_typing.specs.declared.fault.Verdict.{Verdict}
use Rattle.wk_check.specs.Flaws.{first_in}
use Rattle.wk_typing.specs.Faults.{body_flaw}
use Rattle.wk_check.specs.Verdict.{verdict_around, module_verdict}
use Rattle.wk_session.proofs.Appraising.{verdict_lent}
use Rattle.wk_session.proofs.Leading.{is_none_at, too_large}
use Rattle.wk_session.proofs.verdict_and_len.appraise.Goals as goal

pub returns-in-Some : goal.returns-in-Some
returns-in-Some c =
    λ n p known.
    c.admit.ensures.appraised n p.formed (subst (λ (o : Option Verdict). IfSome o (λ v. v ≡ module_verdict n)) c.in-Some.is known) p.len

pub returns-then-is_none : goal.returns-then-is_none
returns-then-is_none c =
    λ n p known other. too_large c.args.keep n p.formed.order (sym (is_none_at c.args.len c.if-is_none.ensures) ∙ p.len)

pub returns : goal.returns
returns c =
    λ n p known.
    let code = c.first_code_fault.ensures ∙ ap (λ (vs : List BodyVerdict). first_in 10 0 (map body_flaw vs)) c.deref.ensures.value in
    let verdict : c.in_ok-verdict.verdict ≡ module_verdict n =
    c.in_ok-verdict.ensures ∙ ap (verdict_around c.args.lists.now.profile (listed c.args.lists.now)) code ∙ verdict_lent c.args.lists.now _ _ n p in
    c.admit-2.ensures.appraised n p.formed verdict p.len
