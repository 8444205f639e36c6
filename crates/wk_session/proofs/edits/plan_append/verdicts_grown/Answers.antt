use Rattle.std.proofs.Common.{◌≡◌, ◌+◌, ℕ, ◌∙◌, ap, sym, map, count_by, zero-add}
use Rattle.std.proofs.lemmas.Result.{IfOk-weaker, on_ok_weaker}
use Rattle.wk_body.specs.declared.references.Ref.{Ref}
use Rattle.wk_module.specs.Listed.{listed}
use Rattle.wk_module.specs.Sections.{SectionLists}
use Rattle.wk_typing.specs.Answers.{Found}
use Rattle.wk_check.specs.Spaces.{answer_in, spaces_of}
use Rattle.wk_check.specs.SpacesLaws.{answers_of}
use Rattle.wk_check.specs.Verdict.{func_verdict}
use Rattle.wk_session.specs.Dependents.{is_retyped_in}
use Rattle.wk_session.proofs.Lent.{answers_lent, lent_is}
use Rattle.wk_session.proofs.edits.plan_append.verdicts_grown.Goals as goal
use Rattle.wk_session.proofs.edits.plan_append.verdicts_grown.Goals.{After-rejudge_bodies}

pub rejudge_bodies-requires-clause-were : goal.rejudge_bodies-requires-clause-were
rejudge_bodies-requires-clause-were c =
    c.requires.kept.verdicts ∙ ap (λ (l : SectionLists). map (func_verdict (answer_in (spaces_of l))) c.args.basis.parts.now.funcs) (sym c.in_ok-old.ensures)

-- what the code of the module sees is what the module is found to hold
now_is : (c : After-rejudge_bodies) → answer_in (spaces_of c.in_ok-new.new) ≡ answers_of c.args.basis.parts.now
now_is c =
    let m = c.args.basis.parts.now in
    answers_lent m _ (lent_is m _ _ (c.in_ok-new.ensures ∙ c.of-2.ensures.lists) (c.deref.ensures.value ∙ c.requires.kept.types))

pub returns-clause-verdicts : goal.returns-clause-verdicts
returns-clause-verdicts c =
    let is = now_is (goal.at.returns-clause-verdicts c).After-rejudge_bodies in
    IfOk-weaker c.rejudge_bodies.result _ _ (λ v e. e ∙ ap (λ (A : Ref → Found). map (func_verdict A) c.args.basis.parts.now.funcs) is)
    c.rejudge_bodies.ensures.verdicts

pub returns-clause-typed : goal.returns-clause-typed
returns-clause-typed c =
    let fs = c.args.basis.parts.now.funcs in
    let now : Ref → Found = answer_in (spaces_of c.in_ok-new.new) in
    let were = ap (λ (l : SectionLists). count_by (is_retyped_in (answer_in (spaces_of l)) now) fs) c.in_ok-old.ensures in
    let are = ap (λ (A : Ref → Found). count_by (is_retyped_in (answer_in (spaces_of (listed c.args.before))) A) fs)
    (now_is (goal.at.returns-clause-typed c).After-rejudge_bodies) in
    let count : ℕ = count_by (is_retyped_in (answer_in (spaces_of c.in_ok-old.old)) now) fs in
    on_ok_weaker c.rejudge_bodies.result (λ e. e ∙ (ap (λ (n : ℕ). n + count) c.requires.fresh ∙ zero-add count) ∙ were ∙ are) c.rejudge_bodies.ensures.typed
