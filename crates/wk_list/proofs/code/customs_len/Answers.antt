use Rattle.std.proofs.Common.{◌∙◌, ap, arith}
use Rattle.wk_module.specs.declared.types.Parts.{Parts}
use Rattle.wk_list.proofs.Offsets.{custom_counted, sections_fit}
use Rattle.wk_list.proofs.code.customs_len.Goals as goal

pub contents_start-requires : goal.contents_start-requires
contents_start-requires g c = omega (arith, c.loop-index.invariant, sections_fit (g.S.Shape.seen c.args.shape.now) c.args.place c.requires c.parts.ensures.fits)

pub overflow_add-total : goal.overflow_add-total
overflow_add-total g c =
    let same = c.as_slice-custom-items.ensures ∙ ap (λ (m : Parts). m.customs) c.parts.ensures.value in
    let counted = custom_counted c.args.place (g.S.Shape.seen c.args.shape.now).customs _ c.loop-index.index _ _ c.custom_len-size.result
    c.custom-item.result same c.custom-item.is c.loop-index-test.true
    c.custom_len-size.ensures c.if-custom-place.true c.loop-index.invariant in
    omega (arith, counted, c.contents_start.ensures, sections_fit (g.S.Shape.seen c.args.shape.now) c.args.place c.requires c.parts.ensures.fits)
