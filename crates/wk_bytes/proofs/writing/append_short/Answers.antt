use Rattle.std.proofs.Common.{rules, arith}
use Rattle.wk_bytes.specs.ShortLaws.{short-last}
use Rattle.wk_bytes.proofs.writing.append_short.Goals as goal

pub returns-then-len-capacity-clause-ok : goal.returns-then-len-capacity-clause-ok
returns-then-len-capacity-clause-ok c = rw (short-last c.args.n (omega arith)) (search rules)
