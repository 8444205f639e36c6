use Rattle.std.proofs.Common.{ℕ, ◌<◌, false, length, slice_index_or, ap, ◌∙◌, arith}
use Rattle.std.proofs.lemmas.List.Edits.{map_over_more}
use Rattle.wk_module.specs.Shape.{settled_custom}
use Rattle.wk_module.proofs.settle.settle_customs.Goals as goal

pub loop-custom-preserved : goal.loop-custom-preserved
loop-custom-preserved c =
    let settled = settled_custom (λ (id : ℕ). slice_index_or c.args.filled.now id false) in
    let within : c.loop-custom.custom-index < length c.args.customs =
    omega (arith, ap length (c.deref_mut-custom-items.ensures.value ∙ c.into_vec-customs.ensures)) in
    let step = map_over_more settled c.args.customs c.loop-custom.custom-items c.loop-custom.custom-index c.custom-item.result within
    c.loop-custom.invariant c.custom-item.is in
    rw (c.lower_place-custom.ensures, ← c.custom-item.is) step
