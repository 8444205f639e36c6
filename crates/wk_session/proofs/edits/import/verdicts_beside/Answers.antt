use Rattle.std.proofs.Common.{◌≡◌, ◌-◌, ap, sym, ◌∙◌, map, take, length, count_by, arith}
use Rattle.wk_body.specs.declared.references.Ref.{Ref}
use Rattle.wk_module.specs.Listed.{listed}
use Rattle.wk_module.specs.Sections.{SectionLists}
use Rattle.wk_typing.specs.declared.fault.Verdict.{Verdict}
use Rattle.wk_typing.specs.Answers.{Found}
use Rattle.wk_check.specs.Spaces.{answer_in, spaces_of}
use Rattle.wk_check.specs.SpacesLaws.{answers_of}
use Rattle.wk_check.specs.Verdict.{func_verdict, module_verdict}
use Rattle.wk_session.specs.Dependents.{is_retyped_in}
use Rattle.wk_session.specs.Imported.{before_import}
use Rattle.wk_session.proofs.Growing.{none_retyped}
use Rattle.wk_session.proofs.ImportEdits.{before_finds}
use Rattle.wk_session.proofs.edits.import.verdicts_beside.Goals as goal
use Rattle.wk_session.proofs.edits.import.verdicts_beside.Goals.{In_ok-old}

finds : (c : In_ok-old) → answer_in (spaces_of c.in_ok-old.old) ≡ answers_of (before_import c.args.basis.parts.now)
finds c =
    let is = c.as_slice-imports.result.now in
    before_finds c.args.basis.parts.now c.in_ok-old.old c.deref.result.now is (c.deref.ensures.value ∙ c.requires.kept.types) c.as_slice-imports.ensures
    (c.in_ok-old.ensures ∙ ap (λ (w : SectionLists). record w { imports = take (length is - 1) is }) c.of.ensures.lists)

pub rejudge_bodies-requires-clause-were : goal.rejudge_bodies-requires-clause-were
rejudge_bodies-requires-clause-were c =
    c.requires.kept.verdicts ∙ ap (λ (A : Ref → Found). map (func_verdict A) c.args.basis.parts.now.funcs)
    (sym (finds (goal.at.rejudge_bodies-requires-clause-were c).In_ok-old))

pub returns-in-Valid-clause-verdicts : goal.returns-in-Valid-clause-verdicts
returns-in-Valid-clause-verdicts c =
    let m = before_import c.args.basis.parts.now in
    let valid : module_verdict m ≡ Verdict.Valid = sym c.requires.kept.verdict ∙ c.in-Valid.is in
    c.requires.kept.verdicts ∙ sym (c.laws_of_valid_modules.ensures.stay m (answer_in (spaces_of (listed c.args.now.now))) valid c.requires.grows)

pub returns-in-Valid-clause-typed : goal.returns-in-Valid-clause-typed
returns-in-Valid-clause-typed c =
    let m = before_import c.args.basis.parts.now in
    let now = answer_in (spaces_of (listed c.args.now.now)) in
    let valid : module_verdict m ≡ Verdict.Valid = sym c.requires.kept.verdict ∙ c.in-Valid.is in
    c.requires.fresh ∙ none_retyped (answers_of m) now m.funcs (c.laws_of_valid_modules.ensures.found m now valid c.requires.grows)

pub returns-clause-verdicts : goal.returns-clause-verdicts
returns-clause-verdicts c =
    c.in_ok-verdicts.ensures.verdicts ∙ ap (λ (w : SectionLists). map (func_verdict (answer_in (spaces_of w))) c.args.basis.parts.now.funcs) c.in_ok-new.ensures

pub returns-clause-typed : goal.returns-clause-typed
returns-clause-typed c =
    let fs = c.args.basis.parts.now.funcs in
    let new = answer_in (spaces_of c.in_ok-new.new) in
    let A = answers_of (before_import c.args.basis.parts.now) in
    let old = ap (λ (B : Ref → Found). count_by (is_retyped_in B new) fs) (finds (goal.at.returns-clause-typed c).In_ok-old) in
    let now = ap (λ (w : SectionLists). count_by (is_retyped_in A (answer_in (spaces_of w))) fs) c.in_ok-new.ensures in
    omega (arith, c.in_ok-verdicts.ensures.typed, old, now, c.requires.fresh)
