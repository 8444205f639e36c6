use Rattle.std.proofs.Common.{ap, ◌∙◌}
use Rattle.wk_check.specs.Verdict.{module_verdict}
use Rattle.wk_session.proofs.session.Session.verdict.Goals as goal

pub returns : goal.returns
returns c = c.self.invariant.verdict ∙ ap module_verdict c.self.view_is
