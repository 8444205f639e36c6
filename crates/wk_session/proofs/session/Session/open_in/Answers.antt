use Rattle.std.proofs.Common.{sym, ◌∙◌}
use Rattle.wk_session.proofs.session.Session.open_in.Goals as goal

pub returns-clause-only : goal.returns-clause-only
returns-clause-only c = λ n profile spells. c.in_ok-module.ensures.only n profile spells ∙ sym c.in_ok-from_module.ensures
