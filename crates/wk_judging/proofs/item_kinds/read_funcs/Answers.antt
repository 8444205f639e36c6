use Rattle.std.proofs.Common.{if◌then◌else◌, false, nat_lt, ◌++◌, length, sym, ap, ◌∙◌}
use Rattle.std.proofs.lemmas.Result.{err_from_is_err_and}
use Rattle.wk_judging.proofs.JudgedSteps.{stands_fails}
use Rattle.wk_judging.proofs.ReadIndices.{index_read, index_stops, indices_begin, no_indices, indices_end}
use Rattle.wk_judging.proofs.item_kinds.read_funcs.Goals as goal
use Rattle.wk_judging.proofs.item_kinds.read_funcs.Goals.{then-are_there, else-are_there}

pub returns-in_err-count : goal.returns-in_err-count
returns-in_err-count c =
    let p = err_from_is_err_and c.from_residual.result c.from_residual.ensures.1 in
    let n = length (c.args.context.now.imported_funcs ++ c.args.context.now.funcs) in
    let cursor = c.args.cursor.now in
    rw (p.1, p.2) (stands_fails _ _ _ _ _ c.in_err-count.ensures.stands.stands
    (no_indices n cursor.end cursor.rest c.in_err-count.field-0.0 c.in_err-count.ensures.exact.0))

pub loop-init : goal.loop-init
loop-init c =
    let n = length (c.args.context.now.imported_funcs ++ c.args.context.now.funcs) in
    let cursor = c.args.cursor.now in
    record {
      end = c.in_ok-count.ensures.exact.1;
      reads = rw c.in_ok-count.ensures.exact.1 (indices_begin n cursor.end c.in_ok-count.count cursor.rest _ c.in_ok-count.ensures.exact.0);
    }

pub returns-in_err-func : goal.returns-in_err-func
returns-in_err-func c =
    let p = err_from_is_err_and c.from_residual-in_err-func.result c.from_residual-in_err-func.ensures.1 in
    let n = length (c.args.context.now.imported_funcs ++ c.args.context.now.funcs) in
    let cursor = c.loop.cursor in
    rw (p.1, p.2) (stands_fails _ _ _ _ _ c.in_err-func.ensures.stands.stands
    (index_stops n c.in_ok-count.count c.loop.counter cursor.end cursor.rest c.loop.are_there c.in_err-func.field-0.0 _ c.loop-test.true
    c.in_err-func.ensures.exact.0 c.loop.invariant.reads))

pub loop-preserved : goal.loop-preserved
loop-preserved c =
    let n = length (c.args.context.now.imported_funcs ++ c.args.context.now.funcs) in
    let cursor = c.loop.cursor in
    let func = c.in_ok-func.func in
    let read = c.in_ok-func.ensures.exact in
    record {
      end = read.1 ∙ c.loop.invariant.end;
      reads = elim c.if-are_there.branch [
        | then-are_there w ↦
            index_read n c.in_ok-count.count c.loop.counter cursor.end _ func cursor.rest _ c.loop.are_there c.if-are_there.are_there _ c.loop-test.true
            read.0 read.1
            (w.are_there-is ∙ w.has_func-are_there.ensures ∙ ap (λ v. if v then nat_lt func n else false) (sym w.if-are_there.true)) c.loop.invariant.reads
        | else-are_there w ↦
            index_read n c.in_ok-count.count c.loop.counter cursor.end _ func cursor.rest _ c.loop.are_there c.if-are_there.are_there _ c.loop-test.true
            read.0 read.1 (w.are_there-is ∙ w.if-are_there.false ∙ ap (λ v. if v then nat_lt func n else false) (sym w.if-are_there.false))
            c.loop.invariant.reads
      ];
    }

pub returns : goal.returns
returns c =
    let n = length (c.args.context.now.imported_funcs ++ c.args.context.now.funcs) in (
      indices_end n c.in_ok-count.count c.loop.counter c.loop.cursor.end c.loop.cursor.rest c.loop.are_there _ c.loop-test.false c.loop.invariant.reads,
      c.loop.invariant.end,
    )
