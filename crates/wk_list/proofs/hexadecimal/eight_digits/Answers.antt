use Rattle.wk_list.proofs.Digits.{eight_by_pairs}
use Rattle.wk_list.proofs.hexadecimal.eight_digits.Goals as goal

pub returns : goal.returns
returns c = rw (c.pair.ensures, c.pair-2.ensures, c.pair-3.ensures, c.pair-4.ensures) (eight_by_pairs c.args.n c.ranges.n.fits)
