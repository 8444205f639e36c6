use Rattle.std.proofs.Common.{List, length, ap, ◌∙◌, arith, length-append}
use Rattle.wk_body.specs.declared.types.ValType.{ValType}
use Rattle.wk_body.specs.Lengths.{limited}
use Rattle.wk_body.specs.Vectors.{written_vector}
use Rattle.wk_module.specs.Types.{written_valtype}
use Rattle.wk_module.proofs.item_write.FuncTypesWritable.measure.Goals as goal

pub returns : goal.returns
returns c =
    let t = c.args.item.now in
    let params = ap (λ (ts : List ValType). length (written_vector written_valtype ts)) c.as_slice.ensures in
    let results = ap (λ (ts : List ValType). length (written_vector written_valtype ts)) c.as_slice-2.ensures in
    λ n h. c.plus_vector.ensures _ (c.plus_vector-total.ensures _ (c.plus-total.ensures n h))
    ∙ ap limited (omega (arith, params, results, length-append (written_vector written_valtype t.params) (written_vector written_valtype t.results)))
