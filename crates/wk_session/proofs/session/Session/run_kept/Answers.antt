use Rattle.wk_session.specs.Runs.{refused_for_memory}
use Rattle.wk_session.proofs.Lasting.{run_valid}
use Rattle.wk_session.proofs.session.Session.run_kept.Goals as goal

pub returns-clause-valid : goal.returns-clause-valid
returns-clause-valid c = run_valid c.run_with.result c.args.edits.now
    (λ rs. refused_for_memory rs.items) c.args.self.now c.run_with.new.self c.run_with.ensures.module_is c.run_with.ensures.err
