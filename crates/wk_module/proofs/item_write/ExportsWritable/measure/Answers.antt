use Rattle.std.proofs.Common.{ℕ, List, ◌∷◌, length, ap, ◌∙◌, arith, length-append}
use Rattle.wk_bytes.specs.Short.{short}
use Rattle.wk_body.specs.Lengths.{limited}
use Rattle.wk_module.specs.Formats.{written_bytes}
use Rattle.wk_module.specs.Types.{kind_byte}
use Rattle.wk_module.proofs.item_write.ExportsWritable.measure.Goals as goal

pub returns : goal.returns
returns c =
    let e = c.args.item.now in
    let name = ap (λ (b : List ℕ). length (written_bytes b)) (c.as_bytes.ensures.value ∙ c.as_str.ensures.value) in
    λ n h. c.plus_u32.ensures _ (c.plus.ensures _ (c.plus_bytes-total.ensures n h))
    ∙ ap limited (omega (arith, name, length-append (written_bytes e.name) (kind_byte e.kind ∷ short e.index)))
