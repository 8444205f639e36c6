use Rattle.std.proofs.lemmas.Result.{err_from_is_err_and}
use Rattle.wk_body.specs.Vectors.{vector_at}
use Rattle.wk_body.specs.ReadsLaws.{fails_on}
use Rattle.wk_module.proofs.VectorReading.{stops_all}
use Rattle.wk_module.proofs.vector_read.read_vector.Goals as goal

pub returns-in_err-item : goal.returns-in_err-item
returns-in_err-item g c =
    let p = err_from_is_err_and c.from_residual-in_err-item.result c.from_residual-in_err-item.ensures.1 in
    let e = c.in_err-item.field-0.0 in
    let read = g.F.Readable.read_at c.args.profile in
    let before = c.loop.cursor in
    let whole = vector_at read c.args.cursor.now.end c.args.cursor.now.rest in
    rw (p.1, p.2) (fails_on e e.kind (read before.end before.rest) whole
    (stops_all read c.loop.items.items c.in_ok-count.count c.loop.counter before.end before.rest e whole c.loop-test.true c.loop.invariant.reads)
    c.in_err-item.ensures)
