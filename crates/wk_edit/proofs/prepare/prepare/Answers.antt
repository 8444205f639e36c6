use Rattle.wk_edit.proofs.OutcomeLemmas.{malformed_ok, malformed_means}
use Rattle.wk_edit.proofs.prepare.prepare.Goals as goal

pub returns-in-Err-clause-ok : goal.returns-in-Err-clause-ok
returns-in-Err-clause-ok c = malformed_ok c.args.keep_valid c.args.profile c.args.input.items c.args.script.now _ c.in-Err.fault
    c.prepare_malformed.ensures.ok c.prepare_malformed.ensures.other c.in-Err.ensures.exact

pub returns-in-Err-clause-means : goal.returns-in-Err-clause-means
returns-in-Err-clause-means c = malformed_means c.args.keep_valid c.args.profile c.args.input.items c.args.script.now _ c.in-Err.fault
    c.prepare_malformed.ensures.other c.in-Err.ensures.exact c.in-Err.ensures.is

pub returns-in-Ok-clause-ok : goal.returns-in-Ok-clause-ok
returns-in-Ok-clause-ok c = c.run_script.ensures.ok c.in-Ok.ensures.exact.0 c.args.input.items c.in-Ok.ensures.exact.2 c.in-Ok.ensures.exact.1

pub returns-in-Ok-clause-means : goal.returns-in-Ok-clause-means
returns-in-Ok-clause-means c = c.run_script.ensures.means c.in-Ok.ensures.exact.0 c.args.input.items c.in-Ok.ensures.exact.2 c.in-Ok.ensures.exact.1
    c.in-Ok.ensures.is
