use Rattle.std.proofs.Common.{arith}
use Rattle.wk_list.proofs.Pieces.{margin_of}
use Rattle.wk_list.proofs.line_buffer.write_margin.Goals as goal

pub returns-then-count-le-MARGIN-clause-text : goal.returns-then-count-le-MARGIN-clause-text
returns-then-count-le-MARGIN-clause-text c =
    margin_of c.args.count c.args.at c.args.buf.now c.write-margin.new.buf c.if-count-le-MARGIN.true (omega (arith, c.fits-buf))
    (rw c.write-margin.ensures.end at c.write-margin.ensures.text)
