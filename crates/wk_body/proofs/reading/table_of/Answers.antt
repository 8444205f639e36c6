use Rattle.std.proofs.Common.{◌∙◌}
use Rattle.std.proofs.lemmas.Result.{err_from_is_err_and}
use Rattle.wk_body.proofs.Labels.{table_fits, table_reads, table_count_fails, table_labels_fail, table_other_fails}
use Rattle.wk_body.proofs.reading.table_of.Goals as goal

pub returns-in_err-len : goal.returns-in_err-len
returns-in_err-len c =
    let p = err_from_is_err_and c.from_residual.result c.from_residual.ensures.1 in
    rw (p.1, p.2) (table_count_fails c.args.cursor.now c.in_err-len.field-0.0 c.in_err-len.ensures.fault.1 c.in_err-len.ensures.exact.0)

pub returns-in_err-labels_of : goal.returns-in_err-labels_of
returns-in_err-labels_of c =
    let p = err_from_is_err_and c.from_residual-in_err-labels_of.result c.from_residual-in_err-labels_of.ensures.1 in
    rw (p.1, p.2) (table_labels_fail c.args.cursor.now c.u32.new.self c.in_ok-len.len c.in_err-labels_of.field-0.0 c.in_ok-len.ensures.exact
    c.in_err-labels_of.ensures)

pub returns-in_err-other : goal.returns-in_err-other
returns-in_err-other c =
    let p = err_from_is_err_and c.from_residual-in_err-other.result c.from_residual-in_err-other.ensures.1 in
    rw (p.1, p.2) (table_other_fails c.args.scratch.now c.labels_of.new.scratch c.args.cursor.now c.u32.new.self c.labels_of.new.cursor c.in_ok-len.len
    c.in_err-other.field-0.0 c.in_ok-len.ensures.exact c.in_ok-labels_of.ensures c.in_err-other.ensures.fault.1 c.in_err-other.ensures.exact.0)

pub push-requires-clause-within : goal.push-requires-clause-within
push-requires-clause-within c = table_fits c.args.scratch.now c.labels_of.new.scratch c.len-start.result c.in_ok-len.len c.u32.new.self
    c.labels_of.new.cursor (c.len-start.ensures ∙ c.args.scratch.now.labels.ok.0) c.in_ok-labels_of.ensures

pub returns : goal.returns
returns c = table_reads c.args.scratch.now c.labels_of.new.scratch c.push.new.self c.len-start.result c.in_ok-len.len c.in_ok-other.other
    c.args.cursor.now c.u32.new.self c.labels_of.new.cursor c.u32-2.new.self
    (c.len-start.ensures ∙ c.args.scratch.now.labels.ok.0) c.in_ok-len.ensures.exact c.in_ok-labels_of.ensures c.in_ok-other.ensures.exact c.in_ok-push.ensures
