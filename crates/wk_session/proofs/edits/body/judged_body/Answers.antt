use Rattle.std.proofs.Common.{◌≡◌, ◌∙◌, map, ap, sym, arith}
use Rattle.std.proofs.lemmas.Result.{err_from_is_err_and}
use Rattle.wk_module.specs.Changes.{with_body}
use Rattle.wk_module.specs.ChangeLaws.{body_formed}
use Rattle.wk_module.specs.Listed.{listed}
use Rattle.wk_module.specs.NumberedLaws.{funcs_numbered}
use Rattle.wk_module.specs.Shape.{IsFormed}
use Rattle.wk_body.specs.declared.references.Ref.{Ref}
use Rattle.wk_typing.specs.Answers.{Found}
use Rattle.wk_typing.specs.Typing.{body_verdict}
use Rattle.wk_check.specs.SpacesLaws.{answers_of}
use Rattle.wk_check.specs.Verdict.{func_verdict, module_verdict}
use Rattle.wk_session.specs.Kept.{IsPending}
use Rattle.wk_session.proofs.BodyEdits.{answers_stay, lent_given, others_stay, told_given}
use Rattle.wk_session.proofs.Lent.{lent, numbered_lent, verdicts_few}
use Rattle.wk_session.proofs.edits.body.judged_body.Goals as goal
use Rattle.wk_session.proofs.edits.body.judged_body.Goals.{After-of-lists, After-verdict_with_body-verdict, In_ok-own, In_ok-verdicts}

formed : (c : After-of-lists) → IsFormed (with_body c.args.entry c.args.body.now c.args.basis.parts.now)
formed c = body_formed c.args.entry c.args.body.now c.args.basis.parts.now c.requires.valid c.requires.shaped.formed

-- the lists that are lent are those of the module with the other body
lists_are : (c : After-of-lists) → listed c.of-lists.result ≡ lent (with_body c.args.entry c.args.body.now c.args.basis.parts.now)
lists_are c =
    lent_given c.args.entry c.args.body.now c.args.basis.parts.now c.deref.result.now _ c.of-lists.ensures.lists (c.deref.ensures.value ∙ c.requires.kept.types)

-- what is pending
pending : (c : After-of-lists) → c.in_ok-verdicts.verdicts.items
    ≡ map (func_verdict (answers_of (with_body c.args.entry c.args.body.now c.args.basis.parts.now)))
    (with_body c.args.entry c.args.body.now c.args.basis.parts.now).funcs
    → IsPending c.of-lists.result c.in_ok-verdicts.verdicts.items c.args.len (with_body c.args.entry c.args.body.now c.args.basis.parts.now)
pending c all = record {
  formed = formed c;
  profile = c.of-lists.ensures.profile;
  lists = lists_are c;
  verdicts = all;
  len = c.requires.len;
}

-- the kept verdicts are those of the others still
others : (c : In_ok-own) → c.args.basis.kept.now.verdicts.items
    ≡ map (func_verdict (answers_of (with_body c.args.entry c.args.body.now c.args.basis.parts.now))) c.args.basis.parts.now.funcs
others c = others_stay c.args.entry c.args.body.now c.args.basis.parts.now c.args.basis.kept.now.verdicts.items c.requires.kept.verdicts

-- with the one that is another they are those of all
all_are : (c : In_ok-verdicts) → c.args.basis.kept.now.verdicts.items
    ≡ map (func_verdict (answers_of (with_body c.args.entry c.args.body.now c.args.basis.parts.now))) c.args.basis.parts.now.funcs
    → c.in_ok-verdicts.verdicts.items ≡ map (func_verdict (answers_of (with_body c.args.entry c.args.body.now c.args.basis.parts.now)))
    (with_body c.args.entry c.args.body.now c.args.basis.parts.now).funcs
all_are c same =
    let m = c.args.basis.parts.now in
    told_given (func_verdict (answers_of (with_body c.args.entry c.args.body.now m))) c.args.entry c.args.body.now m.funcs c.args.ty
    c.args.basis.kept.now.verdicts.items c.in_ok-verdicts.verdicts.items c.in_ok-own.own c.requires.ty c.in_ok-verdicts.ensures same c.in_ok-own.ensures.own

pub overflow_cast-entry : goal.overflow_cast-entry
overflow_cast-entry c = omega (arith, c.requires.within, funcs_numbered c.args.basis.parts.now c.requires.shaped.formed)

-- the verdict of a valid module with the other body
verdict_is : (c : After-verdict_with_body-verdict) → c.verdict_with_body-verdict.result
    ≡ module_verdict (with_body c.args.entry c.args.body.now c.args.basis.parts.now)
verdict_is c =
    c.verdict_with_body-verdict.ensures c.args.basis.parts.now c.args.ty c.args.body.now c.requires.ty (sym c.requires.kept.verdict ∙ c.in-Valid.is)
    (c.in_ok-own.ensures.own ∙ ap (λ (A : Ref → Found). body_verdict A c.args.ty c.args.body.now)
    (answers_stay c.args.entry c.args.body.now c.args.basis.parts.now))

pub returns-in_err-appraisal-clause-judged : goal.returns-in_err-appraisal-clause-judged
returns-in_err-appraisal-clause-judged c =
    let m = c.args.basis.parts.now in
    let p = err_from_is_err_and c.from_residual-in_err-appraisal.result c.from_residual-in_err-appraisal.ensures.1 in
    let formed_with = body_formed c.args.entry c.args.body.now m c.requires.valid c.requires.shaped.formed in
    rw (p.1, p.2) (c.in_err-appraisal.ensures.appraised (with_body c.args.entry c.args.body.now m) formed_with
    (verdict_is (goal.at.returns-in_err-appraisal-clause-judged c).After-verdict_with_body-verdict) c.requires.len)

pub returns-in-Valid-clause-judged : goal.returns-in-Valid-clause-judged
returns-in-Valid-clause-judged c =
    let m = c.args.basis.parts.now in
    let at = goal.at.returns-in-Valid-clause-judged c in
    let formed_with = body_formed c.args.entry c.args.body.now m c.requires.valid c.requires.shaped.formed in
    let appraised = c.in_ok-appraisal.ensures.appraised (with_body c.args.entry c.args.body.now m) formed_with
    (verdict_is at.After-verdict_with_body-verdict) c.requires.len in
    ((c.in_ok-own.ensures.own, others at.In_ok-own), appraised)

pub appraise-requires-clause-numbered : goal.appraise-requires-clause-numbered
appraise-requires-clause-numbered c =
    let at = (goal.at.appraise-requires-clause-numbered c).After-of-lists in
    numbered_lent (with_body c.args.entry c.args.body.now c.args.basis.parts.now) _ (lists_are at) (formed at)

pub appraise-requires-clause-few : goal.appraise-requires-clause-few
appraise-requires-clause-few c =
    let at = goal.at.appraise-requires-clause-few c in
    let n = with_body c.args.entry c.args.body.now c.args.basis.parts.now in
    verdicts_few n (answers_of n) _ (all_are at.In_ok-verdicts (others at.In_ok-own)) (formed at.After-of-lists)

pub returns-in_err-appraisal-2-clause-judged : goal.returns-in_err-appraisal-2-clause-judged
returns-in_err-appraisal-2-clause-judged c =
    let at = goal.at.returns-in_err-appraisal-2-clause-judged c in
    let p = err_from_is_err_and c.from_residual-in_err-appraisal-2.result c.from_residual-in_err-appraisal-2.ensures.1 in
    rw (p.1, p.2) (c.in_err-appraisal-2.ensures (with_body c.args.entry c.args.body.now c.args.basis.parts.now)
    (pending at.After-of-lists (all_are at.In_ok-verdicts (others at.In_ok-own))) tt)

pub returns-clause-judged : goal.returns-clause-judged
returns-clause-judged c =
    let at = goal.at.returns-clause-judged c in
    let all = all_are at.In_ok-verdicts (others at.In_ok-own) in
    (all, c.in_ok-appraisal-2.ensures (with_body c.args.entry c.args.body.now c.args.basis.parts.now) (pending at.After-of-lists all) tt)
