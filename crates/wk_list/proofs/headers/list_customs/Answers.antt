use Rattle.std.proofs.Common.{◌≡◌, ℕ, List, ◌++◌, ◌+◌, ◌<◌, ◌∙◌, length, get_or, refl, sym, ap, arith}
use Rattle.std.proofs.lemmas.Bool.{ne_eqb}
use Rattle.wk_module.specs.Customs.{written_custom}
use Rattle.wk_module.specs.declared.types.Parts.{Parts}
use Rattle.wk_module.specs.declared.types.Custom.{Custom}
use Rattle.wk_list.proofs.TakenLemmas.{puts_left, puts_on, refused, stopped}
use Rattle.wk_list.proofs.Walk.{length-of, length-others}
use Rattle.wk_list.proofs.HeaderSteps.{custom_next, custom_long, custom_end, custom_fits, custom_passed}
use Rattle.wk_list.proofs.headers.list_customs.Goals.{then-custom-place+in_ok-put_custom+in_ok-spill, else-custom-place}
use Rattle.wk_list.proofs.headers.list_customs.Goals as goal

pub returns-in_err-put_custom-clause-puts : goal.returns-in_err-put_custom-clause-puts
returns-in_err-put_custom-clause-puts g c = refused c.loop-index.invariant.so_far c.from_residual.ensures

pub returns-in_err-spill-clause-puts : goal.returns-in_err-spill-clause-puts
returns-in_err-spill-clause-puts g c =
    let cs = (g.S.Sketch.seen c.args.sketch.now).customs in
    let items = c.as_slice-custom-items.ensures ∙ ap (λ (m : Parts). m.customs) c.parts.ensures.value.rest in
    let within : c.loop-index.index < length cs = omega (arith, c.loop-index-test.true, ap length items) in
    let is : c.custom-item.result ≡ get_or cs c.loop-index.index c.custom-item.result = rw items at c.custom-item.is in
    let step = custom_next c.args.place c.loop-index.next c.loop-index.index _ c.custom-item.result cs c.loop-index.text.items _ within is
    c.if-custom-place.true c.in_ok-put_custom.ensures refl in
    stopped (puts_on _ c.loop-index.invariant.so_far step c.in_err-spill.ensures) c.from_residual-in_err-spill.ensures

pub loop-index-preserved : goal.loop-index-preserved
loop-index-preserved g c =
    let cs = (g.S.Sketch.seen c.args.sketch.now).customs in
    let items = c.as_slice-custom-items.ensures ∙ ap (λ (m : Parts). m.customs) c.parts.ensures.value.rest in
    let within : c.loop-index.index < length cs = omega (arith, c.loop-index-test.true, ap length items) in
    let is : c.custom-item.result ≡ get_or cs c.loop-index.index c.custom-item.result = rw items at c.custom-item.is in
    let custom = c.custom-item.result in
    elim c.if-custom-place.branch [
      | then-custom-place+in_ok-put_custom+in_ok-spill w ↦
          let long = w.custom_len-size.ensures custom ∙ ap (λ (d : Custom). length (written_custom d)) (sym is) in
          let end = custom_end c.loop-index.next w.contents_start.result w.custom_len-size.result _ custom w.contents_start.ensures long w.next-is in
          record {
            so_far = rw (w.text-is, w.out-is) (puts_on _ c.loop-index.invariant.so_far
                (custom_next c.args.place c.loop-index.next c.loop-index.index _ custom cs c.loop-index.text.items _ within is w.if-custom-place.true
                w.in_ok-put_custom.ensures end) w.in_ok-spill.ensures);
            place = omega (arith, end, length-of c.args.place c.loop-index.index custom cs within is w.if-custom-place.true, c.loop-index.invariant.place);
          }
      | else-custom-place w ↦
          let other = ne_eqb custom.place c.args.place w.if-custom-place.false in
          record {
            so_far = rw (w.text-is, w.out-is, w.next-is) (puts_left (ap (λ (r : List ℕ). c.loop-index.text.items ++ r)
                (custom_passed c.args.place c.loop-index.next c.loop-index.index custom cs within is other)) c.loop-index.invariant.so_far);
            place = omega (arith, w.next-is, length-others c.args.place c.loop-index.index custom cs within is other, c.loop-index.invariant.place);
          }
    ]

pub custom_len-size-requires : goal.custom_len-size-requires
custom_len-size-requires g c =
    let items = c.as_slice-custom-items.ensures ∙ ap (λ (m : Parts). m.customs) c.parts.ensures.value.rest in
    omega (arith, c.loop-index-test.true, ap length items)

pub put_custom-requires-clause-fits : goal.put_custom-requires-clause-fits
put_custom-requires-clause-fits g c =
    let items = c.as_slice-custom-items.ensures ∙ ap (λ (m : Parts). m.customs) c.parts.ensures.value.rest in
    custom_fits c.args.place c.loop-index.next c.loop-index.index _ c.custom-item.result
    (g.S.Sketch.seen c.args.sketch.now).customs _ items c.loop-index-test.true c.custom-item.is c.if-custom-place.true c.loop-index.invariant.place
    c.requires.fits

pub put_custom-requires-clause-size : goal.put_custom-requires-clause-size
put_custom-requires-clause-size g c =
    let items = c.as_slice-custom-items.ensures ∙ ap (λ (m : Parts). m.customs) c.parts.ensures.value.rest in
    custom_long c.loop-index.index c.custom_len-size.result c.custom-item.result
    (g.S.Sketch.seen c.args.sketch.now).customs _ items c.custom-item.is c.custom_len-size.ensures

pub spill-requires : goal.spill-requires
spill-requires g c = rw c.loop-index.invariant.so_far.failures c.requires.room

pub contents_start-requires : goal.contents_start-requires
contents_start-requires g c = omega (arith, c.loop-index.invariant.place, c.requires.fits)

pub overflow_add-next : goal.overflow_add-next
overflow_add-next g c =
    let items = c.as_slice-custom-items.ensures ∙ ap (λ (m : Parts). m.customs) c.parts.ensures.value.rest in
    let customs = (g.S.Sketch.seen c.args.sketch.now).customs in
    let long = custom_long c.loop-index.index c.custom_len-size.result c.custom-item.result customs _ items c.custom-item.is c.custom_len-size.ensures in
    let end = custom_end c.loop-index.next c.contents_start.result c.custom_len-size.result
    (c.contents_start.result + c.custom_len-size.result) c.custom-item.result c.contents_start.ensures long refl in
    let fits = custom_fits c.args.place c.loop-index.next c.loop-index.index _ c.custom-item.result customs _ items c.loop-index-test.true
    c.custom-item.is c.if-custom-place.true c.loop-index.invariant.place c.requires.fits in
    omega (arith, end, fits)
