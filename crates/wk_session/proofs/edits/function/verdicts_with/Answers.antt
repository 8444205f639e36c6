use Rattle.std.proofs.Common.{◌≡◌, ◌∙◌}
use Rattle.wk_module.specs.Changes.{with_func}
use Rattle.wk_check.specs.SpacesLaws.{func_grows}
use Rattle.wk_session.proofs.EntryEdits.{types_before, types_with, verdicts_more, typed_once}
use Rattle.wk_session.proofs.Lent.{lent, lent_is, grows_lent, verdicts_lent, count_lent}
use Rattle.wk_session.proofs.edits.function.verdicts_with.Goals as goal
use Rattle.wk_session.proofs.edits.function.verdicts_with.Goals.{In_ok-new}

-- what the code saw before, and what it sees with the function
old_is : (c : In_ok-new) → c.in_ok-old.old ≡ lent c.args.basis.parts.now
old_is c =
    let m = c.args.basis.parts.now in
    lent_is m _ _ (c.in_ok-old.ensures ∙ c.of.ensures.lists)
    (types_before m c.args.ty c.len.result _ (c.deref.ensures.value ∙ c.requires.kept.types) c.len.ensures)

new_is : (c : In_ok-new) → c.in_ok-new.new ≡ lent (with_func c.args.ty c.args.body.now c.args.basis.parts.now)
new_is c =
    let m = c.args.basis.parts.now in
    lent_is (with_func c.args.ty c.args.body.now m) _ _ (c.in_ok-new.ensures ∙ c.of-3.ensures.lists)
    (types_with c.args.ty c.args.body.now m _ (c.deref-2.ensures.value ∙ c.requires.kept.types))

pub rejudge_bodies-requires-clause-grows : goal.rejudge_bodies-requires-clause-grows
rejudge_bodies-requires-clause-grows c =
    let m = c.args.basis.parts.now in
    let at = (goal.at.rejudge_bodies-requires-clause-grows c).In_ok-new in
    grows_lent m (with_func c.args.ty c.args.body.now m) _ _ (old_is at) (new_is at) (func_grows m c.args.ty c.args.body.now)

pub rejudge_bodies-requires-clause-were : goal.rejudge_bodies-requires-clause-were
rejudge_bodies-requires-clause-were c =
    let m = c.args.basis.parts.now in
    verdicts_lent m _ m.funcs _ (old_is (goal.at.rejudge_bodies-requires-clause-were c).In_ok-new) c.requires.kept.verdicts

pub returns-clause-verdicts : goal.returns-clause-verdicts
returns-clause-verdicts c =
    let m = c.args.basis.parts.now in
    let n = with_func c.args.ty c.args.body.now m in
    verdicts_more n _ m.funcs (record { ty = c.args.ty; body = c.args.body.now }) _ _ c.in_ok-own.own
    (new_is (goal.at.returns-clause-verdicts c).In_ok-new) c.in_ok-push.ensures.items c.in_ok-verdicts.ensures.verdicts c.in_ok-own.ensures.verdict

pub returns-clause-typed : goal.returns-clause-typed
returns-clause-typed c =
    let m = c.args.basis.parts.now in
    let n = with_func c.args.ty c.args.body.now m in
    let at = (goal.at.returns-clause-typed c).In_ok-new in
    typed_once _ _ _ _ _ c.requires.fresh c.in_ok-verdicts.ensures.typed c.type_body.ensures.typed (count_lent m n _ _ m.funcs (old_is at) (new_is at))
