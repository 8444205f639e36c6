use Rattle.std.proofs.Common.{◌≡◌, ◌∙◌, ap, sym, arith}
use Rattle.std.proofs.lemmas.Result.{err_from_is_err_and}
use Rattle.wk_body.specs.declared.references.Ref.{Ref}
use Rattle.wk_module.specs.Changes.{with_func}
use Rattle.wk_module.specs.NumberedLaws.{funcs_numbered}
use Rattle.wk_module.specs.Sections.{TypeSection}
use Rattle.wk_module.specs.Shape.{IsFormed}
use Rattle.wk_module.specs.WritingLaws.{room}
use Rattle.wk_typing.specs.declared.fault.Verdict.{Verdict}
use Rattle.wk_typing.specs.Answers.{Found}
use Rattle.wk_check.specs.SpacesLaws.{answers_of, func_grows}
use Rattle.wk_typing.specs.Typing.{body_verdict}
use Rattle.wk_check.specs.Verdict.{module_verdict}
use Rattle.wk_session.proofs.EntryEdits.{formed_with_func, types_with}
use Rattle.wk_session.proofs.Lent.{answers_lent, lent_is}
use Rattle.wk_session.proofs.Growing.{none_retyped}
use Rattle.wk_session.proofs.Outcomes.{told_fits}
use Rattle.wk_session.proofs.edits.function.judged_in_valid.Goals as goal
use Rattle.wk_session.proofs.edits.function.judged_in_valid.Goals.{In_ok-own, After-verdict_with_func-verdict}

formed : (c : In_ok-own) → IsFormed (with_func c.args.ty c.args.body.now c.args.basis.parts.now)
formed c =
    formed_with_func c.args.ty c.args.body.now c.args.basis.parts.now c.args.basis.kept.now c.requires.kept c.ranges.ty.fits c.requires.valid
    c.requires.shaped.formed

valid : (c : In_ok-own) → module_verdict c.args.basis.parts.now ≡ Verdict.Valid
valid c = sym c.requires.kept.verdict ∙ c.requires.was_valid

-- the verdict of the body in the module with the function
own_is : (c : In_ok-own) → c.in_ok-own.own ≡ body_verdict (answers_of (with_func c.args.ty c.args.body.now c.args.basis.parts.now)) c.args.ty c.args.body.now
own_is c =
    let n = with_func c.args.ty c.args.body.now c.args.basis.parts.now in
    let lists = lent_is n _ _ (c.in_ok-whole.ensures ∙ c.of.ensures.lists)
    (types_with c.args.ty c.args.body.now c.args.basis.parts.now _ (c.deref.ensures.value ∙ c.requires.kept.types)) in
    c.in_ok-own.ensures.verdict ∙ ap (λ (A : Ref → Found). body_verdict A c.args.ty c.args.body.now) (answers_lent n c.in_ok-whole.whole lists)

-- the verdict of the module with the function
verdict_is : (c : After-verdict_with_func-verdict) → module_verdict c.args.basis.parts.now ≡ Verdict.Valid
    → c.in_ok-own.own ≡ body_verdict (answers_of (with_func c.args.ty c.args.body.now c.args.basis.parts.now)) c.args.ty c.args.body.now
    → c.verdict_with_func-verdict.result ≡ module_verdict (with_func c.args.ty c.args.body.now c.args.basis.parts.now)
verdict_is c was own = c.verdict_with_func-verdict.ensures c.args.basis.parts.now c.args.body.now (sym c.len.ensures) (sym c.len-2.ensures) was own

pub overflow_cast-len : goal.overflow_cast-len
overflow_cast-len c =
    let m = c.args.basis.parts.now in
    omega (arith, c.len.ensures, room m TypeSection (told_fits m c.args.basis.kept.now.len c.requires.kept.len))

pub overflow_cast-len-2 : goal.overflow_cast-len-2
overflow_cast-len-2 c = omega (arith, c.len-2.ensures, funcs_numbered c.args.basis.parts.now c.requires.shaped.formed)

pub returns-in_err-appraisal-clause-judged : goal.returns-in_err-appraisal-clause-judged
returns-in_err-appraisal-clause-judged c =
    let at = goal.at.returns-in_err-appraisal-clause-judged c in
    let own = at.In_ok-own in
    let p = err_from_is_err_and c.from_residual-in_err-appraisal.result c.from_residual-in_err-appraisal.ensures.1 in
    rw (p.1, p.2) (c.in_err-appraisal.ensures.appraised (with_func c.args.ty c.args.body.now c.args.basis.parts.now) (formed own)
    (verdict_is at.After-verdict_with_func-verdict (valid own) (own_is own)) c.requires.len)

pub returns-clause-judged : goal.returns-clause-judged
returns-clause-judged c =
    let m = c.args.basis.parts.now in
    let n = with_func c.args.ty c.args.body.now m in
    let at = goal.at.returns-clause-judged c in
    let own = at.In_ok-own in
    let stay = c.laws_of_valid_modules.ensures.stay m (answers_of n) (valid own) (func_grows m c.args.ty c.args.body.now) in
    let verdict = verdict_is at.After-verdict_with_func-verdict (valid own) (own_is own) in
    let appraised = c.in_ok-appraisal.ensures.appraised n (formed own) verdict c.requires.len in
    ((own_is own, c.requires.kept.verdicts ∙ sym stay), appraised)

pub returns-clause-typed : goal.returns-clause-typed
returns-clause-typed c =
    let m = c.args.basis.parts.now in
    let n = with_func c.args.ty c.args.body.now m in
    let found = c.laws_of_valid_modules.ensures.found m (answers_of n) (valid (goal.at.returns-clause-typed c).In_ok-own)
    (func_grows m c.args.ty c.args.body.now) in
    omega (arith, c.type_body.ensures.typed, c.requires.fresh, none_retyped (answers_of m) (answers_of n) m.funcs found)
