use Rattle.wk_body.proofs.RefSets.{gains_key}
use Rattle.wk_body.proofs.references.add.Goals as goal

pub returns : goal.returns
returns c = gains_key c.args.r c.args.found.now.keys c.insert.new.self.keys c.in_ok-insert.ensures.keys c.in_ok-insert.ensures.ordered
