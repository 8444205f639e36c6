use Rattle.std.proofs.Common.{refl, ap, ◌∙◌}
use Rattle.wk_module.specs.declared.types.Kind.TheVariants.{Func}
use Rattle.wk_module.specs.declared.types.Parts.{Parts}
use Rattle.wk_module.specs.NumberedLaws.{module_numbered}
use Rattle.wk_list.specs.Spaces.{count_of}
use Rattle.wk_list.specs.Uses.{use_line}
use Rattle.wk_list.proofs.LineSteps.{line_put}
use Rattle.wk_list.proofs.TakenLemmas.{all_left, puts_on, refused, stopped}
use Rattle.wk_list.proofs.uses.list_uses.Goals as goal

pub count_of-imported-requires : goal.count_of-imported-requires
count_of-imported-requires g c = rw (c.as_slice.ensures, c.parts-parts.ensures.value) (module_numbered _ c.parts-parts.ensures.shaped.formed).imports

pub loop-index-init : goal.loop-index-init
loop-index-init g c =
    let funcs = c.as_slice-funcs.ensures ∙ ap (λ (p : Parts). p.funcs) c.parts-parts.ensures.value in
    let imported = c.count_of-imported.ensures ∙ ap (count_of Func) (c.as_slice.ensures ∙ ap (λ (p : Parts). p.imports) c.parts-parts.ensures.value) in
    all_left (rw (imported, funcs) refl)

pub returns-in_err-put_uses : goal.returns-in_err-put_uses
returns-in_err-put_uses g c = refused c.loop-index.invariant c.from_residual.ensures

pub returns-in_err-spill : goal.returns-in_err-spill
returns-in_err-spill g c =
    let step = line_put use_line c.as_slice-funcs.result.now _ _ c.loop-index.index c.index-funcs-index.result c.loop-index.text.items _ c.from.ensures
    c.loop-index-test.true c.index-funcs-index.is c.in_ok-put_uses.ensures in
    stopped (puts_on _ c.loop-index.invariant step c.in_err-spill.ensures) c.from_residual-in_err-spill.ensures

pub loop-index-preserved : goal.loop-index-preserved
loop-index-preserved g c =
    let step = line_put use_line c.as_slice-funcs.result.now _ _ c.loop-index.index c.index-funcs-index.result c.loop-index.text.items _ c.from.ensures
    c.loop-index-test.true c.index-funcs-index.is c.in_ok-put_uses.ensures in
    puts_on _ c.loop-index.invariant step c.in_ok-spill.ensures
