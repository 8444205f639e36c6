use Rattle.std.proofs.lemmas.Result.{err_from_is_err_and}
use Rattle.wk_body.specs.ValTypes.{valtype_at}
use Rattle.wk_body.specs.Vectors.{vector_at}
use Rattle.wk_body.specs.ReadsLaws.{fails_on}
use Rattle.wk_module.specs.Formats.{made_at}
use Rattle.wk_module.proofs.VectorReading.{with_front, stops_all}
use Rattle.wk_module.proofs.type_list.append_valtypes.Goals as goal

pub returns-in_err-ty-clause-read : goal.returns-in_err-ty-clause-read
unfolding made_at vector_at
returns-in_err-ty-clause-read c =
    let p = err_from_is_err_and c.from_residual-in_err-ty.result c.from_residual-in_err-ty.ensures.1 in
    let e = c.in_err-ty.field-0.0 in
    let before = c.loop.cursor in
    let whole = with_front c.args.lists.now.items (vector_at valtype_at c.args.cursor.now.end c.args.cursor.now.rest) in
    rw (p.1, p.2) (fails_on e e.kind (valtype_at before.end before.rest) whole
    (stops_all valtype_at c.loop.lists.items c.in_ok-count.count c.loop.counter before.end before.rest e whole c.loop-test.true c.loop.invariant.reads)
    c.in_err-ty.ensures.exact)
