use Rattle.std.proofs.Common.{◌++◌, ap, arith, length, List, ℕ}
use Rattle.wk_list.proofs.Offsets.{sections_fit, first_is, codes_fit, text_is}
use Rattle.wk_module.specs.declared.types.Parts.{Parts}
use Rattle.wk_module.specs.NumberedLaws.{funcs_numbered, module_numbered}
use Rattle.wk_list.proofs.TakenLemmas.{puts_same}
use Rattle.wk_list.proofs.code.list_code.Goals as goal

pub count_of-imported-requires : goal.count_of-imported-requires
count_of-imported-requires g c = rw (c.as_slice.ensures, c.parts-parts.ensures.value) (module_numbered _ c.parts-parts.ensures.shaped.formed).imports

pub contents_start-contents-requires : goal.contents_start-contents-requires
contents_start-contents-requires g c =
    omega (arith, c.code_start.ensures, sections_fit (g.S.Shape.seen c.args.shape.now) 10 (omega arith) c.parts-parts.ensures.fits)

pub overflow_cast-len : goal.overflow_cast-len
overflow_cast-len g c =
    omega (arith, funcs_numbered _ c.parts-parts.ensures.shaped.formed, c.len.ensures, ap (λ (m : Parts). length m.funcs) c.parts-parts.ensures.value)

pub overflow_add-first : goal.overflow_add-first
overflow_add-first g c =
    omega (
      arith,
      codes_fit (g.S.Shape.seen c.args.shape.now) _ _ c.parts-parts.ensures.value c.if-is_empty.ensures c.parts-parts.ensures.fits
          (first_is (g.S.Shape.seen c.args.shape.now) _ _ _ _ _ _ c.parts-parts.ensures.value c.code_start.ensures c.section_len.ensures
          c.contents_start-contents.ensures c.leb_len_u32.ensures c.len.ensures),
    )

pub list_entries-requires-clause-few : goal.list_entries-requires-clause-few
list_entries-requires-clause-few g c = funcs_numbered _ c.parts-parts.ensures.shaped.formed

pub list_entries-requires-clause-fits : goal.list_entries-requires-clause-fits
list_entries-requires-clause-fits g c =
    codes_fit (g.S.Shape.seen c.args.shape.now) _ _ c.parts-parts.ensures.value c.if-is_empty.ensures c.parts-parts.ensures.fits
    (first_is (g.S.Shape.seen c.args.shape.now) _ _ _ _ _ _ c.parts-parts.ensures.value c.code_start.ensures c.section_len.ensures
    c.contents_start-contents.ensures c.leb_len_u32.ensures c.len.ensures)

pub returns : goal.returns
returns g c =
    puts_same (ap (λ (x : List ℕ). c.args.text.now.items ++ x) (text_is (g.S.Shape.seen c.args.shape.now) _ _ _ _ c.parts-parts.ensures.value
    c.as_slice.ensures c.count_of-imported.ensures
    (first_is (g.S.Shape.seen c.args.shape.now) _ _ _ _ _ _ c.parts-parts.ensures.value c.code_start.ensures c.section_len.ensures
    c.contents_start-contents.ensures c.leb_len_u32.ensures c.len.ensures)))
    c.list_entries.ensures
