use Rattle.std.proofs.Common.{◌+◌, ◌<◌, length, refl, ap, ◌∙◌, arith}
use Rattle.wk_module.specs.declared.types.Kind.TheVariants.{Func}
use Rattle.wk_module.specs.declared.types.Parts.{Parts}
use Rattle.wk_list.specs.Details.{code_size_line}
use Rattle.wk_list.specs.Spaces.{count_of}
use Rattle.wk_list.specs.Text.{numbered}
use Rattle.wk_list.proofs.Headings.{heading_put}
use Rattle.wk_list.proofs.Sections.{many_funcs}
use Rattle.wk_list.proofs.SizeSteps.{size_put}
use Rattle.wk_list.proofs.TakenLemmas.{all_left, puts_on, refused, stopped}
use Rattle.wk_list.proofs.details.list_codes.Goals as goal

pub loop-index-init : goal.loop-index-init
loop-index-init g c =
    let m = g.S.Sketch.seen c.args.sketch.now in
    let imported = c.count_of-imported.ensures ∙ ap (count_of Func) (c.as_slice.ensures ∙ ap (λ (p : Parts). p.imports) c.parts-parts.ensures.value.rest) in
    all_left (rw imported (heading_put 10 (numbered (λ n. code_size_line (count_of Func m.imports + n)) 0) refl m.funcs _ _ _
    (c.len-count.ensures ∙ many_funcs m c.parts-parts.result.now c.parts-parts.ensures.value) c.in_ok-put_heading.ensures))

pub returns-in_err-put_size : goal.returns-in_err-put_size
returns-in_err-put_size g c = refused c.loop-index.invariant c.from_residual-in_err-put_size.ensures

pub returns-in_err-spill : goal.returns-in_err-spill
returns-in_err-spill g c =
    let m = g.S.Sketch.seen c.args.sketch.now in
    let within : c.loop-index.index < length m.funcs = omega (arith, many_funcs m c.parts-parts.result.now c.parts-parts.ensures.value) in
    let step = size_put m.funcs _ _ c.loop-index.index _ c.loop-index.text.items _ c.from.ensures within c.body_len-size.ensures
    (λ f is. c.in_ok-put_size.ensures f is) in
    stopped (puts_on _ c.loop-index.invariant step c.in_err-spill.ensures) c.from_residual-in_err-spill.ensures

pub loop-index-preserved : goal.loop-index-preserved
loop-index-preserved g c =
    let m = g.S.Sketch.seen c.args.sketch.now in
    let within : c.loop-index.index < length m.funcs = omega (arith, many_funcs m c.parts-parts.result.now c.parts-parts.ensures.value) in
    let step = size_put m.funcs _ _ c.loop-index.index _ c.loop-index.text.items _ c.from.ensures within c.body_len-size.ensures
    (λ f is. c.in_ok-put_size.ensures f is) in
    puts_on _ c.loop-index.invariant step c.in_ok-spill.ensures
