use Rattle.std.proofs.Common.{arith, rules}
use Rattle.wk_bytes.specs.ShortLaws.{short-last}
use Rattle.wk_body.proofs.token_buffer.put_number.Goals as goal

pub returns-then-n-lt128-clause-bytes : goal.returns-then-n-lt128-clause-bytes
returns-then-n-lt128-clause-bytes c = rw (short-last c.args.n (omega arith)) (search rules)
