use Rattle.wk_session.proofs.Used.{uses_in_order}
use Rattle.wk_session.proofs.cache.func_uses.Goals as goal

pub returns : goal.returns
returns c = uses_in_order c.uses.result c.args.own_type c.args.body.now c.uses.ensures.rising c.uses.ensures.exact
