use Rattle.std.proofs.Common.{◌<◌, length, ap, ◌∙◌, arith}
use Rattle.wk_body.specs.Lengths.{limited}
use Rattle.wk_module.specs.Customs.{written_custom}
use Rattle.wk_module.specs.WritingLaws.{written_frame}
use Rattle.wk_module.proofs.Lengths.{length_more}
use Rattle.wk_module.proofs.length.plus_customs.Goals as goal

pub loop-custom-preserved : goal.loop-custom-preserved
loop-custom-preserved c =
    let customs = c.args.customs.now in
    let within : c.loop-custom.custom-index < length customs = omega (arith, ap length c.as_slice-custom-items.ensures) in
    let is = rw c.as_slice-custom-items.ensures at c.custom-item.is in
    let more = length_more written_frame customs c.loop-custom.custom-index c.custom-item.result within is in
    λ n h. c.plus_framed-all.ensures 0 (written_custom c.custom-item.result) c.custom_len.ensures _ (c.loop-custom.invariant n h)
    ∙ ap limited (omega (arith, more))
