use Rattle.wk_bytes.proofs.LebShort.{front_u32}
use Rattle.wk_bytes.proofs.leb.far_u32.Goals as goal

pub returns-in-Some-clause-found : goal.returns-in-Some-clause-found
returns-in-Some-clause-found c = λ some. front_u32 c.in-Some.len c.args.bytes.now c.in-Some.n c.in-Some.ensures.2
