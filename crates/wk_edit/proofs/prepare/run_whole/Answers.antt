use Rattle.std.proofs.Common.{ap, sym, ◌∙◌}
use Rattle.wk_module.specs.Reading.{module_at}
use Rattle.wk_edit.proofs.OutcomeLemmas.{same_module}
use Rattle.wk_edit.proofs.prepare.run_whole.Goals as goal

pub open_session-opened-requires-clause-judged : goal.open_session-opened-requires-clause-judged
open_session-opened-requires-clause-judged c = λ m at. c.requires.judged m (ap (module_at c.args.profile) (sym c.deref.ensures.value) ∙ at)

pub open_session-opened-requires-clause-codes : goal.open_session-opened-requires-clause-codes
open_session-opened-requires-clause-codes c = λ m at. c.requires.codes m (ap (module_at c.args.profile) (sym c.deref.ensures.value) ∙ at)

pub returns-in-Ok-clause-ok : goal.returns-in-Ok-clause-ok
returns-in-Ok-clause-ok c = λ m at.
    let same = same_module c.args.profile c.deref.result.now c.args.input.items c.in-Ok.session m c.deref.ensures.value c.in-Ok.ensures at in
    rw same at c.prepare_run.ensures.ok
