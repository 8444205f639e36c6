use Rattle.std.proofs.Common.{◌≡◌, ap, sym, subst, ◌∙◌, List, ◌++◌, ◌∷◌, [], count_by}
use Rattle.std.specs.Prelude.{IfSome}
use Rattle.std.proofs.lemmas.Result.{on_ok_weaker}
use Rattle.wk_module.specs.declared.types.Import.{Import}
use Rattle.wk_module.specs.declared.types.Parts.{Parts}
use Rattle.wk_module.specs.Changes.{with_import}
use Rattle.wk_check.specs.Verdict.{module_verdict}
use Rattle.wk_session.specs.declared.edit.Edit.TheVariants as edits
use Rattle.wk_session.specs.Dependents.{is_retyped}
use Rattle.wk_session.specs.Imported.{after_import}
use Rattle.wk_session.proofs.Judging.{on_ok}
use Rattle.wk_session.proofs.ImportEdits.{pushed_before, ready_after, formed_after}
use Rattle.wk_session.proofs.edits.import.push_judged.Goals as goal
use Rattle.wk_session.proofs.edits.import.push_judged.Goals.{In_ok-push}

pushed : (c : In_ok-push) → record c.args.parts.now { imports = c.push.new.self } ≡ with_import c.args.import.now c.args.parts.now
pushed c =
    let m = c.args.parts.now in
    ap (λ (is : List Import). record m { imports = is }) (c.in_ok-push.ensures.ok ∙ ap (λ (i : Import). m.imports ++ i ∷ []) c.in_ok-copy.ensures)

pub judged_import-judged-requires-clause-ready : goal.judged_import-judged-requires-clause-ready
judged_import-judged-requires-clause-ready c =
    let m = c.args.parts.now in
    ready_after c.moving_of_module.ensures.formed c.args.import.now m (record m { imports = c.push.new.self }) c.args.kept.now c.args.plan.now
    (pushed (goal.at.judged_import-judged-requires-clause-ready c).In_ok-push) c.requires.kept c.requires.plan c.spelled_import.ensures c.requires.formed

pub judged_import-judged-requires-clause-known : goal.judged_import-judged-requires-clause-known
judged_import-judged-requires-clause-known c =
    let i = c.args.import.now in
    let m = c.args.parts.now in
    let before = pushed_before i m (record m { imports = c.push.new.self }) (pushed (goal.at.judged_import-judged-requires-clause-known c).In_ok-push) in
    subst (λ (q : Parts). IfSome c.known_with_import-known.result (λ v. v ≡ module_verdict (after_import i q)))
    (sym before) c.known_with_import-known.ensures.some

pub returns-else-is_err-clause-formed : goal.returns-else-is_err-clause-formed
returns-else-is_err-clause-formed c =
    on_ok c.judged_import-judged.result
    (formed_after c.moving_of_module.ensures.formed c.args.import.now c.args.parts.now c.args.kept.now c.requires.kept c.requires.plan.free
    c.spelled_import.ensures c.requires.formed)

pub returns-else-is_err-clause-typed : goal.returns-else-is_err-clause-typed
returns-else-is_err-clause-typed c =
    let i = c.args.import.now in
    let m = c.args.parts.now in
    let before = pushed_before i m (record m { imports = c.push.new.self }) (pushed (goal.at.returns-else-is_err-clause-typed c).In_ok-push) in
    let same = ap (λ (q : Parts). count_by (is_retyped (edits.Import i) q (after_import i q)) q.funcs) before in
    on_ok_weaker c.judged_import-judged.result (λ e. e ∙ same) c.judged_import-judged.ensures.typed
