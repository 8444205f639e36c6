use Rattle.std.proofs.Common.{length, ap, arith}
use Rattle.std.specs.Int.{w64}
use Rattle.std.proofs.lemmas.Int.{to_z-of_z}
use Rattle.wk_bytes.specs.Short.{short_signed}
use Rattle.wk_bytes.specs.ShortLaws.{signed_few}
use Rattle.wk_list.proofs.fast_line.signed_len.Goals as goal

pub returns-clause-few : goal.returns-clause-few
returns-clause-few c =
    let same = ap (λ z. length (short_signed z)) (to_z-of_z w64 c.args.z c.ranges.z) in
    omega (arith, same, c.leb_len_s64.ensures, signed_few c.args.z c.ranges.z)
