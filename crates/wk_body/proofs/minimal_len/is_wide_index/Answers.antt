use Rattle.wk_body.proofs.MinimalTests.{wide_index_test}
use Rattle.wk_body.proofs.minimal_len.is_wide_index.Goals as goal

pub returns-then-both-eq128 : goal.returns-then-both-eq128
returns-then-both-eq128 c = λ more x y p q is. wide_index_test c.args.both x y c.if-both-eq128.true more p q is
