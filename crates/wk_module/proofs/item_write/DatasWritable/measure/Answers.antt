use Rattle.std.proofs.Common.{ℕ, List, ◌++◌, length, ap, ◌∙◌, arith, length-append}
use Rattle.wk_bytes.specs.Short.{short}
use Rattle.wk_body.specs.Lengths.{limited}
use Rattle.wk_body.specs.Written.{written_expr}
use Rattle.wk_module.specs.Formats.{written_bytes}
use Rattle.wk_module.proofs.item_write.DatasWritable.measure.Goals as goal

pub returns : goal.returns
returns c =
    let d = c.args.item.now in
    let bytes = ap (λ (b : List ℕ). length (written_bytes b)) c.as_slice.ensures in
    λ n h. c.plus_bytes.ensures _ (c.plus_expr-total.ensures _ (c.plus_u32.ensures n h))
    ∙ ap limited (omega (
      arith,
      bytes,
      length-append (short d.memory) (written_expr d.offset ++ written_bytes d.bytes),
      length-append (written_expr d.offset) (written_bytes d.bytes),
    ))
