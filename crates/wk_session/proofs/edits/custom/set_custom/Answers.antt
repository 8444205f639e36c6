use Rattle.std.proofs.Common.{refl, sym, ap, subst, Ok}
use Rattle.std.proofs.lemmas.Result.{err_from_is_err_and}
use Rattle.wk_module.specs.Shape.{settle}
use Rattle.wk_session.specs.declared.edit.Edit.TheVariants as edits
use Rattle.wk_session.specs.declared.edit.Work.{Work}
use Rattle.wk_session.specs.Edits.{is_large, with_custom}
use Rattle.wk_session.specs.Kept.{IsKept, Leads}
use Rattle.wk_session.proofs.Leading.{accepted, refused_for}
use Rattle.wk_session.proofs.Works.{typeless_work}
use Rattle.wk_session.proofs.edits.custom.set_custom.Goals as goal

pub returns-in_err-put_custom : goal.returns-in_err-put_custom
returns-in_err-put_custom c =
    let m = c.args.parts.now in
    let put = c.in_err-put_custom.ensures in
    let result = c.from_residual.result in
    refused_for c.args.keep (edits.SetCustom c.args.name.now c.args.bytes.now) m c.put_custom.new.kept (subst (IsKept m) (sym put.3) c.requires.kept)
    c.put_custom.new.parts c.in_err-put_custom.field-0.0 result (err_from_is_err_and result c.from_residual.ensures.1) put.0
    (λ wanted. ap is_large (put.1 wanted)) put.2

pub returns : goal.returns
returns c =
    let e = edits.SetCustom c.args.name.now c.args.bytes.now in
    let m = c.args.parts.now in
    let n = with_custom c.args.name.now c.args.bytes.now m in
    let put = c.in_ok-put_custom.ensures in
    let new = c.put_custom.new in
    let works = typeless_work e m (settle n) refl (λ f. refl) 1 (λ r. refl) refl in
    let leads = accepted c.args.keep e m n new.parts c.args.kept.now new.kept _ put.1 refl put.0 works put.2 put.3 in
    subst (λ (w : Work). Leads c.args.keep e m (Ok w) new.parts new.kept) (sym c.work_on.ensures) leads
