use Rattle.wk_body.proofs.MinimalTests.{wide_number_test}
use Rattle.wk_body.proofs.minimal_len.is_wide_number.Goals as goal

pub returns-then-both-ne2 : goal.returns-then-both-ne2
returns-then-both-ne2 c = λ below x y p q is. wide_number_test c.args.both x y c.if-both-ne128.false c.if-both-ne2.true below p q is
