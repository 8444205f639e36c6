use Rattle.std.proofs.Common.{rules, ◌<◌, ◌^◌, arith}
use Rattle.wk_bytes.specs.HexDigitLaws.{padded_digits}
use Rattle.wk_bytes.proofs.display.ReadFaultDisplay.fmt.Goals as goal

pub returns-clause-writes : goal.returns-clause-writes
returns-clause-writes g c =
    let small : c.args.self.now.at < 2 ^ 32 = search rules in
    rw (c.laid_out.ensures, c.in_radix.ensures, padded_digits 7 c.args.self.now.at (omega arith) (omega arith)) at c.write.ensures.writes
