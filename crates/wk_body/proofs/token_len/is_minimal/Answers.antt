use Rattle.std.proofs.Common.{◌≡◌, ◌+◌, ◌*◌, arith}
use Rattle.wk_body.proofs.TokenLen.{brief_test}
use Rattle.wk_body.proofs.token_len.is_minimal.Goals as goal

pub returns : goal.returns
returns c = λ e.
    let both : c.from.result ≡ c.args.x + c.args.y * 256 = omega (arith, c.from.ensures, c.from_le_bytes-behind.ensures) in
    brief_test c.args.len c.args.x c.args.y c.from.result c.from-2.result c.from-3.result c.requires c.ranges.x.fits c.ranges.y.fits both
    c.from-2.ensures c.from-3.ensures e
