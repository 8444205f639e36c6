use Rattle.std.proofs.Common.{ℕ, List, ◌++◌, length, ap, ◌∙◌, arith, length-append}
use Rattle.wk_bytes.specs.Short.{short}
use Rattle.wk_body.specs.Lengths.{limited}
use Rattle.wk_body.specs.Vectors.{written_vector}
use Rattle.wk_body.specs.Written.{written_expr}
use Rattle.wk_module.proofs.item_write.ElemsWritable.measure.Goals as goal

pub returns : goal.returns
returns c =
    let e = c.args.item.now in
    let funcs = ap (λ (fs : List ℕ). length (written_vector short fs)) c.as_slice.ensures in
    λ n h. c.plus_vector.ensures _ (c.plus_expr-total.ensures _ (c.plus_u32.ensures n h))
    ∙ ap limited (omega (
      arith,
      funcs,
      length-append (short e.table) (written_expr e.offset ++ written_vector short e.funcs),
      length-append (written_expr e.offset) (written_vector short e.funcs),
    ))
