use Rattle.std.proofs.Common.{arith}
use Rattle.wk_bytes.specs.LebLaws.{SpellsS-fits}
use Rattle.wk_bytes.proofs.LebShort.{front_signed}
use Rattle.wk_bytes.proofs.leb.far_signed.Goals as goal

pub returns-clause-found : goal.returns-clause-found
returns-clause-found c = λ some. front_signed c.args.bits c.in-Some.found.1 c.args.bytes.now _ (c.in-Some.ensures.2 c.args.bits (omega arith))

pub returns-clause-range : goal.returns-clause-range
returns-clause-range c = λ some. SpellsS-fits c.args.bits _ _ (c.in-Some.ensures.2 c.args.bits (omega arith))
