use Rattle.wk_session.proofs.Used.{moved_in_order}
use Rattle.wk_session.proofs.edits.renumber.shifted_uses.Goals as goal

pub returns : goal.returns
returns c = moved_in_order c.shift_uses.result c.args.kind c.args.from c.args.uses.now.keys c.shift_uses.ensures.rising c.shift_uses.ensures.exact
