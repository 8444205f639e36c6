use Rattle.std.proofs.Common.{◌<◌, arith}
use Rattle.wk_list.proofs.Offsets.{sections_fit, sections_more}
use Rattle.wk_list.proofs.code.code_start.Goals as goal

pub section_end-requires : goal.section_end-requires
section_end-requires g c =
    let id_fits : c.loop-id.id < 12 = omega arith in
    let m = g.S.Shape.seen c.args.shape.now in
    (m, c.section_len.ensures, omega (arith, c.loop-id.invariant, sections_fit m c.loop-id.id id_fits c.parts-parts.ensures.fits))

pub overflow_add-at : goal.overflow_add-at
overflow_add-at g c =
    let id_fits : c.loop-id.id < 12 = omega arith in
    let m = g.S.Shape.seen c.args.shape.now in
    omega (
      arith,
      c.loop-id.invariant,
      c.section_end.ensures m c.section_len.ensures,
      c.customs_len.ensures,
      sections_fit m c.loop-id.id id_fits c.parts-parts.ensures.fits,
    )

pub loop-id-preserved : goal.loop-id-preserved
loop-id-preserved g c =
    let id_fits : c.loop-id.id < 12 = omega arith in
    let m = g.S.Shape.seen c.args.shape.now in
    omega (arith, c.loop-id.invariant, c.section_end.ensures m c.section_len.ensures, c.customs_len.ensures, sections_more m c.loop-id.id id_fits)
