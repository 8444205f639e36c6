use Rattle.wk_bytes.specs.ShortLaws.{short_signed-is, short_signed-spells, signed_64}
use Rattle.wk_bytes.proofs.writing_signed.put_s64.Goals as goal

pub returns-clause-shortest : goal.returns-clause-shortest
returns-clause-shortest c = short_signed-is c.args.n

pub returns-clause-spells : goal.returns-clause-spells
returns-clause-spells c = short_signed-spells 64 c.args.n (signed_64 c.args.n c.ranges.n)
