use Rattle.std.proofs.Common.{◌≡◌, ap, ◌∙◌}
use Rattle.wk_module.specs.Reading.{module_at}
use Rattle.wk_edit.proofs.prepare.run_edits.Goals as goal

pub returns-in-Whole-clause-ok : goal.returns-in-Whole-clause-ok
returns-in-Whole-clause-ok c = λ m is.
    let same : c.in-Whole.session ≡ m = rw c.in-Whole.is at is in rw same at c.prepare_run.ensures.ok

pub edit_outline-requires : goal.edit_outline-requires
edit_outline-requires c =
    let is = rw c.in-Outlined.is at c.requires.1 in
    (c.requires.0, ap (module_at c.args.profile) c.deref.ensures.value ∙ is.0, is.1, is.2)

pub returns-in-Made-clause-ok : goal.returns-in-Made-clause-ok
returns-in-Made-clause-ok c = λ m opened.
    let lent = ap (module_at c.args.profile) c.deref.ensures.value ∙ (rw c.in-Outlined.is at opened).0 in
    c.prepare_draft.ensures.ok c.args.keep_valid m c.args.edits.now (rw c.in-Made.is at (c.in_ok-run.ensures m lent))

pub run_whole-requires-clause-judged : goal.run_whole-requires-clause-judged
run_whole-requires-clause-judged c = λ m at.
    (rw c.in-Unmade.is at (c.in_ok-run.ensures m (ap (module_at c.args.profile) c.deref.ensures.value ∙ at))).0

pub run_whole-requires-clause-codes : goal.run_whole-requires-clause-codes
run_whole-requires-clause-codes c = λ m at.
    (rw c.in-Unmade.is at (c.in_ok-run.ensures m (ap (module_at c.args.profile) c.deref.ensures.value ∙ at))).1

pub returns-in-Unmade-clause-ok : goal.returns-in-Unmade-clause-ok
returns-in-Unmade-clause-ok c = λ m opened. c.run_whole.ensures.ok m (rw c.in-Outlined.is at opened).0
