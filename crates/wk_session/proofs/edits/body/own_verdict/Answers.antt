use Rattle.std.proofs.Common.{◌≡◌, ◌∙◌, ap, sym}
use Rattle.std.proofs.lemmas.Result.{IfOk-weaker}
use Rattle.wk_body.specs.declared.references.Ref.{Ref}
use Rattle.wk_typing.specs.Answers.{Found}
use Rattle.wk_typing.specs.Typing.{body_verdict}
use Rattle.wk_session.proofs.Lent.{answers_lent, lent, lent_is}
use Rattle.wk_session.proofs.BodyEdits.{answers_stay}
use Rattle.wk_session.proofs.edits.body.own_verdict.Goals as goal
use Rattle.wk_session.proofs.edits.body.own_verdict.Goals.{In_ok-whole}

-- what the code sees is what the module is found to hold
whole_is : (c : In_ok-whole) → c.in_ok-whole.whole ≡ lent c.args.basis.parts.now
whole_is c = lent_is c.args.basis.parts.now c.deref.result.now _ (c.in_ok-whole.ensures ∙ c.of.ensures.lists) (c.deref.ensures.value ∙ c.requires.kept.types)

pub returns-clause-own : goal.returns-clause-own
returns-clause-own c =
    let m = c.args.basis.parts.now in
    let found = answers_lent m c.in_ok-whole.whole (whole_is (goal.at.returns-clause-own c).In_ok-whole) ∙ sym (answers_stay c.args.entry c.args.body.now m) in
    IfOk-weaker c.type_body.result _ _ (λ v is. is ∙ ap (λ (A : Ref → Found). body_verdict A c.args.ty c.args.body.now) found) c.type_body.ensures.verdict
