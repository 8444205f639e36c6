use Rattle.std.proofs.Common.{List, [], take, sym, refl, subst}
use Rattle.wk_module.specs.declared.types.Import.{Import}
use Rattle.wk_list.specs.Details.{import_lines}
use Rattle.wk_list.specs.Spaces.{AreCounted}
use Rattle.wk_list.proofs.Headings.{heading_put}
use Rattle.wk_list.proofs.TakenLemmas.{all_left, puts_on, refused, stopped}
use Rattle.wk_list.proofs.ImportSteps.{before_are, before_next, imports_step}
use Rattle.wk_list.proofs.imports.list_imports.Goals as goal

pub loop-index-init : goal.loop-index-init
loop-index-init g c = record {
  counted = c.new-counts.ensures;
  so_far = all_left (heading_put 2 (import_lines []) refl c.args.imports.now _ _ _ refl c.in_ok-put_heading.ensures);
}

pub returns-in_err-put_import : goal.returns-in_err-put_import
returns-in_err-put_import g c = refused c.loop-index.invariant.so_far c.from_residual-in_err-put_import.ensures

pub returns-in_err-spill : goal.returns-in_err-spill
returns-in_err-spill g c =
    let imports = c.args.imports.now in
    let at = c.loop-index.index in
    let put = c.in_ok-put_import.ensures (take at imports) (before_are imports at c.loop-index-test.true)
    (c.take-own.ensures.index (take at imports) c.loop-index.invariant.counted) in
    let step = imports_step imports at c.index-imports-index.result c.loop-index.text.items _ c.loop-index-test.true c.index-imports-index.is put in
    stopped (puts_on _ c.loop-index.invariant.so_far step c.in_err-spill.ensures) c.from_residual-in_err-spill.ensures

pub loop-index-preserved : goal.loop-index-preserved
loop-index-preserved g c =
    let imports = c.args.imports.now in
    let at = c.loop-index.index in
    let import = c.index-imports-index.result in
    let before = take at imports in
    let put = c.in_ok-put_import.ensures before (before_are imports at c.loop-index-test.true)
    (c.take-own.ensures.index before c.loop-index.invariant.counted) in
    let step = imports_step imports at import c.loop-index.text.items _ c.loop-index-test.true c.index-imports-index.is put in
    let more = before_next imports at import c.loop-index-test.true c.index-imports-index.is in
    record {
      counted = subst (λ (is : List Import). AreCounted c.take-own.new.self is) (sym more)
          (c.take-own.ensures.counted before import refl c.loop-index.invariant.counted);
      so_far = puts_on _ c.loop-index.invariant.so_far step c.in_ok-spill.ensures;
    }
