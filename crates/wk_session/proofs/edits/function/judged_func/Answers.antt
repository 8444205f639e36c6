use Rattle.std.proofs.Common.{◌≡◌, ◌∙◌}
use Rattle.std.proofs.lemmas.Result.{err_from_is_err_and}
use Rattle.wk_module.specs.Changes.{with_func}
use Rattle.wk_module.specs.Listed.{listed}
use Rattle.wk_module.specs.Shape.{IsFormed}
use Rattle.wk_check.specs.SpacesLaws.{answers_of}
use Rattle.wk_session.specs.Kept.{IsPending}
use Rattle.wk_session.proofs.EntryEdits.{formed_with_func, types_with}
use Rattle.wk_session.proofs.Lent.{lent, lent_is, numbered_lent, verdicts_few}
use Rattle.wk_session.proofs.edits.function.judged_func.Goals as goal
use Rattle.wk_session.proofs.edits.function.judged_func.Goals.{After-of-lists}

formed : (c : After-of-lists) → IsFormed (with_func c.args.ty c.args.body.now c.args.basis.parts.now)
formed c =
    formed_with_func c.args.ty c.args.body.now c.args.basis.parts.now c.args.basis.kept.now c.requires.kept c.ranges.ty.fits c.requires.valid
    c.requires.shaped.formed

-- the lists that are lent are those of the module with the function
lists_are : (c : After-of-lists) → listed c.of-lists.result ≡ lent (with_func c.args.ty c.args.body.now c.args.basis.parts.now)
lists_are c =
    let m = c.args.basis.parts.now in
    lent_is (with_func c.args.ty c.args.body.now m) _ _ c.of-lists.ensures.lists
    (types_with c.args.ty c.args.body.now m _ (c.deref.ensures.value ∙ c.requires.kept.types))

-- what is pending
pending : (c : After-of-lists) → IsPending c.of-lists.result c.in_ok-verdicts.verdicts.items c.args.len
    (with_func c.args.ty c.args.body.now c.args.basis.parts.now)
pending c = record {
  formed = formed c;
  profile = c.of-lists.ensures.profile;
  lists = lists_are c;
  verdicts = c.in_ok-verdicts.ensures.verdicts;
  len = c.requires.len;
}

pub appraise-requires-clause-numbered : goal.appraise-requires-clause-numbered
appraise-requires-clause-numbered c =
    let at = (goal.at.appraise-requires-clause-numbered c).After-of-lists in
    numbered_lent (with_func c.args.ty c.args.body.now c.args.basis.parts.now) _ (lists_are at) (formed at)

pub appraise-requires-clause-few : goal.appraise-requires-clause-few
appraise-requires-clause-few c =
    let n = with_func c.args.ty c.args.body.now c.args.basis.parts.now in
    verdicts_few n (answers_of n) _ c.in_ok-verdicts.ensures.verdicts
    (formed (goal.at.appraise-requires-clause-few c).After-of-lists)

pub returns-in_err-appraisal-clause-judged : goal.returns-in_err-appraisal-clause-judged
returns-in_err-appraisal-clause-judged c =
    let p = err_from_is_err_and c.from_residual-in_err-appraisal.result c.from_residual-in_err-appraisal.ensures.1 in
    rw (p.1, p.2) (c.in_err-appraisal.ensures (with_func c.args.ty c.args.body.now c.args.basis.parts.now)
    (pending (goal.at.returns-in_err-appraisal-clause-judged c).After-of-lists) tt)

pub returns-clause-judged : goal.returns-clause-judged
returns-clause-judged c = (
  c.in_ok-verdicts.ensures.verdicts,
  c.in_ok-appraisal.ensures (with_func c.args.ty c.args.body.now c.args.basis.parts.now)
      (pending (goal.at.returns-clause-judged c).After-of-lists) tt,
)
