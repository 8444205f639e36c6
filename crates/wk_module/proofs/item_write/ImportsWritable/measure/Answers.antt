use Rattle.std.proofs.Common.{ℕ, List, ◌++◌, length, ap, ◌∙◌, arith, length-append}
use Rattle.wk_body.specs.Lengths.{limited}
use Rattle.wk_module.specs.Formats.{written_bytes}
use Rattle.wk_module.specs.Items.{written_desc}
use Rattle.wk_module.proofs.item_write.ImportsWritable.measure.Goals as goal

pub returns : goal.returns
returns c =
    let i = c.args.item.now in
    let from = ap (λ (b : List ℕ). length (written_bytes b)) (c.as_bytes.ensures.value ∙ c.as_str.ensures.value) in
    let name = ap (λ (b : List ℕ). length (written_bytes b)) (c.as_bytes-2.ensures.value ∙ c.as_str-2.ensures.value) in
    λ n h. c.plus_desc.ensures _ (c.plus_bytes-total-2.ensures _ (c.plus_bytes-total.ensures n h))
    ∙ ap limited (omega (
      arith,
      from,
      name,
      length-append (written_bytes i.from) (written_bytes i.name ++ written_desc i.desc),
      length-append (written_bytes i.name) (written_desc i.desc),
    ))
