use Rattle.std.proofs.Common.{◌<◌, ◌^◌, arith}
use Rattle.wk_bytes.specs.ShortLaws.{short-few}
use Rattle.wk_list.proofs.fast_line.unsigned_len.Goals as goal

pub returns-clause-few : goal.returns-clause-few
returns-clause-few c =
    let small : c.args.x < 2 ^ 32 = omega arith in
    omega (arith, short-few 32 c.args.x (omega arith) small)
