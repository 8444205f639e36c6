use Rattle.wk_bytes.specs.ShortLaws.{short_signed-is, short_signed-spells}
use Rattle.wk_bytes.proofs.ShortLoop.{signed_33}
use Rattle.wk_bytes.proofs.writing_signed.put_s33.Goals as goal

pub returns-clause-shortest : goal.returns-clause-shortest
returns-clause-shortest c = short_signed-is c.args.n

pub returns-clause-spells : goal.returns-clause-spells
returns-clause-spells c = short_signed-spells 33 c.args.n (signed_33 c.args.n c.requires.low c.requires.high)
