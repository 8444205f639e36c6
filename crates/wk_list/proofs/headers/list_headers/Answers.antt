use Rattle.std.proofs.Common.{◌<◌, refl, arith}
use Rattle.wk_list.proofs.TakenLemmas.{all_left, on_unit, puts_on, refused, stopped}
use Rattle.wk_list.proofs.Walk.{length-all}
use Rattle.wk_list.proofs.HeaderSteps.{section_next, section_fits, customs_fit, place_after}
use Rattle.wk_list.proofs.headers.list_headers.Goals as goal

pub loop-id-init : goal.loop-id-init
loop-id-init g c = record { so_far = all_left refl; place = length-all (g.S.Sketch.seen c.args.sketch.now) }

pub put_section-requires : goal.put_section-requires
put_section-requires g c =
    let lt : c.loop-id.id < 12 = omega (arith, c.loop-id-test.true) in
    let m = g.S.Sketch.seen c.args.sketch.now in
    (m, c.section_len-size.ensures, section_fits m c.loop-id.at c.loop-id.id lt c.loop-id.invariant.place c.parts-parts.ensures.fits)

pub returns-in_err-put_section : goal.returns-in_err-put_section
returns-in_err-put_section g c = refused c.loop-id.invariant.so_far c.from_residual.ensures

pub section_end-at-requires : goal.section_end-at-requires
section_end-at-requires g c =
    let lt : c.loop-id.id < 12 = omega (arith, c.loop-id-test.true) in
    let m = g.S.Sketch.seen c.args.sketch.now in
    (m, c.section_len-size.ensures, section_fits m c.loop-id.at c.loop-id.id lt c.loop-id.invariant.place c.parts-parts.ensures.fits)

pub list_customs-requires-clause-fits : goal.list_customs-requires-clause-fits
list_customs-requires-clause-fits g c =
    let lt : c.loop-id.id < 12 = omega (arith, c.loop-id-test.true) in
    customs_fit (g.S.Sketch.seen c.args.sketch.now) c.loop-id.at c.loop-id.id _ lt c.loop-id.invariant.place c.parts-parts.ensures.fits
    (c.section_end-at.ensures (g.S.Sketch.seen c.args.sketch.now) c.section_len-size.ensures)

pub returns-in_err-at : goal.returns-in_err-at
returns-in_err-at g c =
    let lt : c.loop-id.id < 12 = omega (arith, c.loop-id-test.true) in
    let m = g.S.Sketch.seen c.args.sketch.now in
    let step = section_next m c.loop-id.at c.loop-id.id c.section_end-at.result _ c.loop-id.text.items _ lt
    (c.in_ok-put_section.ensures m c.parts-parts.ensures.value c.section_len-size.ensures) (c.section_end-at.ensures m c.section_len-size.ensures) refl in
    stopped (puts_on _ c.loop-id.invariant.so_far step c.in_err-at.ensures.puts) c.from_residual-in_err-at.ensures

pub loop-id-preserved : goal.loop-id-preserved
loop-id-preserved g c =
    let lt : c.loop-id.id < 12 = omega (arith, c.loop-id-test.true) in
    let m = g.S.Sketch.seen c.args.sketch.now in
    let ends = c.section_end-at.ensures m c.section_len-size.ensures in
    let step = section_next m c.loop-id.at c.loop-id.id c.section_end-at.result c.in_ok-at.at c.loop-id.text.items _ lt
    (c.in_ok-put_section.ensures m c.parts-parts.ensures.value c.section_len-size.ensures) ends c.in_ok-at.ensures.end in
    record {
      so_far = on_unit (puts_on _ c.loop-id.invariant.so_far step c.in_ok-at.ensures.puts);
      place = place_after m c.loop-id.at c.loop-id.id c.section_end-at.result c.in_ok-at.at lt c.loop-id.invariant.place ends c.in_ok-at.ensures.end;
    }
