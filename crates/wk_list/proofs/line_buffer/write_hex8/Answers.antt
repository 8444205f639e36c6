use Rattle.wk_list.proofs.Digits.{put_by_pairs}
use Rattle.wk_list.proofs.line_buffer.write_hex8.Goals as goal

pub returns-clause-text : goal.returns-clause-text
returns-clause-text c =
    put_by_pairs c.args.n _ _ _ _ _ _ _ _ _ c.ranges.n.fits c.write-second.ensures.text c.write-third.ensures.text
    c.write-last.ensures.text c.write.ensures.text
    c.pair.ensures c.pair-2.ensures c.pair-3.ensures c.pair-4.ensures
