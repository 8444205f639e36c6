use Rattle.std.proofs.Common.{arith}
use Rattle.wk_list.proofs.Pieces.{ends}
use Rattle.wk_list.proofs.line_buffer.write_ends.Goals as goal

pub returns-clause-text : goal.returns-clause-text
returns-clause-text g c =
    ends g.row.N c.args.at c.write-first.result c.write-2.result c.args.buf.now c.write-first.new.buf c.write-2.new.buf c.args.piece.now
    c.in-Some.first.now c.in-Some-last_chunk.last.now
    c.in-Some.ensures.cases.enough c.requires.size (omega (arith, c.told-buf, c.requires.room)) c.in-Some.ensures.cases.same
    c.in-Some-last_chunk.ensures.cases.1.same
    c.write-first.ensures.end c.write-first.ensures.text c.write-2.ensures.text
