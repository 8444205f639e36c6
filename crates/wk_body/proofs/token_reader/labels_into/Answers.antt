use Rattle.std.proofs.lemmas.Result.{err_from_is_err_and}
use Rattle.wk_body.proofs.Labels.{labels_start, labels_more, labels_stop, labels_done}
use Rattle.wk_body.proofs.token_reader.labels_into.Goals as goal

pub loop-init : goal.loop-init
loop-init c = labels_start c.args.labels.now.items c.args.len c.args.cursor.now c.requires

pub loop-preserved : goal.loop-preserved
loop-preserved c =
    rw c.in_ok-push_label.ensures.items
    (labels_more c.loop.labels.items c.args.len c.loop.counter c.in_ok-label.label c.args.cursor.now c.loop.cursor c.u32.new.self _ c.loop-test.true
    c.in_ok-label.ensures.exact c.loop.invariant)

pub returns-in_err-label : goal.returns-in_err-label
returns-in_err-label c =
    let p = err_from_is_err_and c.from_residual.result c.from_residual.ensures.1 in
    rw (p.1, p.2) (labels_stop c.loop.labels.items c.in_err-label.field-0.0 c.args.len c.loop.counter c.args.cursor.now c.loop.cursor _ c.loop-test.true
    c.in_err-label.ensures.fault.1 c.in_err-label.ensures.exact.0 c.loop.invariant)

pub returns : goal.returns
returns c = labels_done c.loop.labels.items c.args.len c.loop.counter c.args.cursor.now c.loop.cursor _ c.loop-test.false c.loop.invariant
