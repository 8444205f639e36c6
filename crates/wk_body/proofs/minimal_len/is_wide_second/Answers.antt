use Rattle.std.proofs.lemmas.Bool.{ltb-true}
use Rattle.wk_body.proofs.MinimalTests.{wide_second_test}
use Rattle.wk_body.proofs.minimal_len.is_wide_second.Goals as goal

pub returns-then-z-gt0 : goal.returns-then-z-gt0
returns-then-z-gt0 c = λ few x y p q is. wide_second_test c.args.both x y c.args.z c.if-z-gt0.true.0 c.if-z-gt0.true.1 (ltb-true c.args.z 128 few) p q is
