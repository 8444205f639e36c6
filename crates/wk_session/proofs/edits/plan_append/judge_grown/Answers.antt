use Rattle.std.proofs.Common.{◌≡◌, Option, subst, ◌∙◌}
use Rattle.std.specs.Prelude.{IfSome}
use Rattle.wk_module.specs.Listed.{listed}
use Rattle.wk_typing.specs.declared.fault.Verdict.{Verdict}
use Rattle.wk_check.specs.Spaces.{answer_in, spaces_of}
use Rattle.wk_check.specs.SpacesLaws.{answers_of}
use Rattle.wk_session.specs.Judged.{IsKnown}
use Rattle.wk_session.specs.Kept.{IsPending}
use Rattle.wk_session.proofs.Lent.{lent, lent_is, numbered_lent, verdicts_few}
use Rattle.wk_session.proofs.edits.plan_append.judge_grown.Goals as goal
use Rattle.wk_session.proofs.edits.plan_append.judge_grown.Goals.{After-of-lists}

-- the lists that are lent are those of the module
lists_are : (c : After-of-lists) → listed c.of-lists.result ≡ lent c.args.basis.parts.now
lists_are c = lent_is c.args.basis.parts.now _ _ c.of-lists.ensures.lists (c.deref.ensures.value ∙ c.requires.kept.types)

pub appraise-requires-clause-numbered : goal.appraise-requires-clause-numbered
appraise-requires-clause-numbered c =
    numbered_lent c.args.basis.parts.now _ (lists_are (goal.at.appraise-requires-clause-numbered c).After-of-lists) c.requires.formed

pub appraise-requires-clause-few : goal.appraise-requires-clause-few
appraise-requires-clause-few c =
    verdicts_few c.args.basis.parts.now (answers_of c.args.basis.parts.now) _ c.in_ok-verdicts.ensures.verdicts c.requires.formed

pub returns-in-Some : goal.returns-in-Some
returns-in-Some c =
    let n = c.args.basis.parts.now in
    let known = subst (λ (o : Option Verdict). IfSome o (IsKnown (answer_in (spaces_of (listed c.args.before))) n)) c.in-Some.is c.requires.known in
    record {
      appraised = c.in_ok-appraisal.ensures.appraised n c.requires.formed known.verdict c.requires.len;
      verdicts = c.requires.kept.verdicts ∙ known.verdicts;
      typed_are = c.requires.fresh ∙ known.typed;
    }

pub returns : goal.returns
returns c =
    let n = c.args.basis.parts.now in
    let pending : IsPending c.of-lists.result c.in_ok-verdicts.verdicts.items c.args.len n = record {
      formed = c.requires.formed;
      profile = c.of-lists.ensures.profile;
      lists = lists_are (goal.at.returns c).After-of-lists;
      verdicts = c.in_ok-verdicts.ensures.verdicts;
      len = c.requires.len;
    } in
    record {
      appraised = c.in_ok-appraisal-2.ensures n pending tt;
      verdicts = c.in_ok-verdicts.ensures.verdicts;
      typed_are = c.in_ok-verdicts.ensures.typed;
    }
