use Rattle.std.proofs.Common.{◌≡◌, ap, subst, ◌∙◌, false}
use Rattle.std.specs.Prelude.{IfErr}
use Rattle.wk_session.specs.declared.edit.Edit.{Edit}
use Rattle.wk_session.specs.declared.edit.EditFault.TheVariants.{Memory}
use Rattle.wk_session.specs.Edits.{is_decided}
use Rattle.wk_session.specs.Runs.{reply_of, is_memory}
use Rattle.wk_session.proofs.Settling.{strip_always}
use Rattle.wk_session.proofs.session.Session.apply.Goals as goal

pub returns-clause-always : goal.returns-clause-always
returns-clause-always c =
    λ is.
    let m = c.args.self.now in
    let r = c.apply_with.result in
    let reply = c.apply_with.ensures.reply ∙ ap (λ (e : Edit). reply_of false e (is_memory r) m) is in
    strip_always m r reply (subst (λ (e : Edit). IfErr r (λ f. f ≡ Memory → is_decided e m ≡ false)) is c.apply_with.ensures.decided)
