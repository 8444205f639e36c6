use Rattle.std.proofs.Common.{◌+◌, ◌∙◌, ap, arith, length, refl}
use Rattle.wk_module.specs.declared.types.Parts.{Parts}
use Rattle.wk_list.proofs.Entries.{codes_of, size_is, code_is, entry_fits, entry_next, next_place}
use Rattle.wk_list.proofs.TakenLemmas.{puts_on, stopped}
use Rattle.wk_list.proofs.code.list_entries.Goals as goal

pub returns-in_err-list_entry : goal.returns-in_err-list_entry
returns-in_err-list_entry g c =
    let same = c.as_slice-func-items.ensures ∙ ap (λ (m : Parts). m.funcs) c.parts.ensures.value in
    let step = entry_next _ _ c.loop-index.index c.args.imported _ c.loop-index.at c.body_len-size.result _ c.func-item.result c.loop-index.text.items
    c.from.ensures same c.func-item.is c.loop-index-test.true
    c.body_len-size.ensures refl in
    stopped (puts_on _ c.loop-index.invariant.so_far step c.in_err-list_entry.ensures) c.from_residual.ensures

pub loop-index-preserved : goal.loop-index-preserved
loop-index-preserved g c =
    let same = c.as_slice-func-items.ensures ∙ ap (λ (m : Parts). m.funcs) c.parts.ensures.value in
    let step = entry_next _ _ c.loop-index.index c.args.imported _ c.loop-index.at _ _ c.func-item.result c.loop-index.text.items c.from.ensures same
    c.func-item.is c.loop-index-test.true
    c.body_len-size.ensures c.leb_len_u32.ensures in
    record {
      so_far = puts_on _ c.loop-index.invariant.so_far step c.in_ok-list_entry.ensures;
      place = next_place _ _ c.loop-index.index c.loop-index.at
          (c.args.start + length (codes_of (g.S.Shape.seen c.args.shape.now).funcs)) _ _ c.func-item.result same c.func-item.is c.loop-index-test.true
          c.body_len-size.ensures c.leb_len_u32.ensures c.loop-index.invariant.place;
    }

pub body_len-size-requires : goal.body_len-size-requires
body_len-size-requires g c =
    let same = c.as_slice-func-items.ensures ∙ ap (λ (m : Parts). m.funcs) c.parts.ensures.value in
    omega (arith, c.loop-index-test.true, ap length same)

pub list_entry-requires-clause-room : goal.list_entry-requires-clause-room
list_entry-requires-clause-room g c = rw c.loop-index.invariant.so_far.failures c.requires.room

pub list_entry-requires-clause-size : goal.list_entry-requires-clause-size
list_entry-requires-clause-size g c =
    let same = c.as_slice-func-items.ensures ∙ ap (λ (m : Parts). m.funcs) c.parts.ensures.value in
    size_is _ _ c.loop-index.index c.body_len-size.result c.func-item.result same c.func-item.is c.body_len-size.ensures

pub list_entry-requires-clause-fits : goal.list_entry-requires-clause-fits
list_entry-requires-clause-fits g c =
    let same = c.as_slice-func-items.ensures ∙ ap (λ (m : Parts). m.funcs) c.parts.ensures.value in
    entry_fits _ _ c.loop-index.index c.loop-index.at _ c.func-item.result same c.func-item.is c.loop-index-test.true c.loop-index.invariant.place
    c.requires.fits

pub overflow_add-at : goal.overflow_add-at
overflow_add-at g c =
    let same = c.as_slice-func-items.ensures ∙ ap (λ (m : Parts). m.funcs) c.parts.ensures.value in
    let fits = entry_fits _ _ c.loop-index.index c.loop-index.at _ c.func-item.result same c.func-item.is c.loop-index-test.true
    c.loop-index.invariant.place c.requires.fits in
    let size = size_is _ _ c.loop-index.index c.body_len-size.result c.func-item.result same c.func-item.is c.body_len-size.ensures in
    let long = code_is c.body_len-size.result c.leb_len_u32.result c.func-item.result size c.leb_len_u32.ensures in
    omega (arith, fits, long)

pub overflow_add-at-in-loop-index : goal.overflow_add-at-in-loop-index
overflow_add-at-in-loop-index g c =
    let same = c.as_slice-func-items.ensures ∙ ap (λ (m : Parts). m.funcs) c.parts.ensures.value in
    let fits = entry_fits _ _ c.loop-index.index c.loop-index.at _ c.func-item.result same c.func-item.is c.loop-index-test.true
    c.loop-index.invariant.place c.requires.fits in
    let size = size_is _ _ c.loop-index.index c.body_len-size.result c.func-item.result same c.func-item.is c.body_len-size.ensures in
    let long = code_is c.body_len-size.result c.leb_len_u32.result c.func-item.result size c.leb_len_u32.ensures in
    omega (arith, fits, long)
