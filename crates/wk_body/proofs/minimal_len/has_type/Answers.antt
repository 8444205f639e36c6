use Rattle.std.proofs.lemmas.Bool.{leb-true}
use Rattle.wk_body.proofs.MinimalTests.{value_types}
use Rattle.wk_body.proofs.minimal_len.has_type.Goals as goal

pub returns-then-x-ge124 : goal.returns-then-x-ge124
returns-then-x-ge124 c = λ e is. value_types c.args.x c.if-x-ge124.true (leb-true c.args.x 127 e)
