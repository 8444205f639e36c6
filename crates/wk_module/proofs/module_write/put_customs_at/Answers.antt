use Rattle.std.proofs.Common.{◌<◌, ℕ, length, ap, arith}
use Rattle.wk_module.specs.Writing.{customs_at}
use Rattle.wk_module.proofs.WritingSteps.{custom_le}
use Rattle.wk_module.proofs.module_write.put_customs_at.Goals as goal

pub put_custom_section-requires : goal.put_custom_section-requires
put_custom_section-requires c =
    let customs = c.args.customs.now in
    let within : c.loop-custom.custom-index < length customs = omega (arith, ap length c.as_slice-custom-items.ensures) in
    let is = rw c.as_slice-custom-items.ensures at c.custom-item.is in
    let le = custom_le customs c.loop-custom.custom-index c.custom-item.result within is in
    omega (arith, le, c.requires, ap (λ (place : ℕ). length (customs_at place customs)) c.if-custom-place.true)
