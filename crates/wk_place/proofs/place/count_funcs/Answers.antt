use Rattle.std.proofs.Common.{◌+◌, ap, ◌∙◌, arith}
use Rattle.std.proofs.lemmas.Result.{err_from_is_err_and}
use Rattle.wk_body.specs.ReadsLaws.{other_fault}
use Rattle.wk_module.specs.InPlace.{import_desc_at}
use Rattle.wk_module.proofs.InPlace.{stands_sure}
use Rattle.wk_place.specs.Seeking.{funcs_at}
use Rattle.wk_place.proofs.Counting.{one_more, stops}
use Rattle.wk_place.proofs.place.count_funcs.Goals as goal

pub returns-in_err-desc : goal.returns-in_err-desc
returns-in_err-desc c =
    let p = err_from_is_err_and c.from_residual-in_err-desc.result c.from_residual-in_err-desc.ensures.1 in
    let e = c.in_err-desc.field-0.0 in
    let here = c.loop in
    let whole = funcs_at c.args.cursor.now.end c.args.cursor.now.rest in
    let bad = other_fault e e.kind (import_desc_at here.cursor.end here.cursor.rest) (stands_sure here.cursor e c.in_err-desc.ensures.fault)
    c.in_err-desc.ensures.exact in
    rw (p.1, p.2) (stops c.in_ok-count.count here.counter here.cursor.end here.funcs here.cursor.rest e whole c.loop-test.true bad here.invariant.reads)

pub loop-preserved : goal.loop-preserved
loop-preserved c =
    let here = c.loop in
    let read = c.in_ok-desc.ensures.exact in
    let whole = funcs_at c.args.cursor.now.end c.args.cursor.now.rest in
    record {
      few = grind (arith, c.one_if_func-funcs.ensures, here.invariant.few);
      end = read.1 ∙ here.invariant.end;
      reads = one_more c.in_ok-count.count here.counter here.cursor.end _ here.funcs _ here.cursor.rest _ c.in_ok-desc.desc whole c.loop-test.true
          read.0 read.1 (ap (λ n. here.funcs + n) c.one_if_func-funcs.ensures) here.invariant.reads;
    }
