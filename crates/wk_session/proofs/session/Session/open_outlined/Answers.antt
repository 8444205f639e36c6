use Rattle.std.proofs.Common.{sym, ◌∙◌}
use Rattle.wk_session.proofs.session.Session.open_outlined.Goals as goal

pub returns-clause-only : goal.returns-clause-only
returns-clause-only c = λ n profile spells. c.in-Ok.ensures.only n profile spells ∙ sym c.in_ok-from_module.ensures

pub from_module-requires-clause-known : goal.from_module-requires-clause-known
from_module-requires-clause-known c = c.requires.verdict c.in-Ok.whole c.in-Ok.ensures.exact
