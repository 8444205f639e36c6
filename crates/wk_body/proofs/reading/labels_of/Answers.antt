use Rattle.std.proofs.lemmas.Result.{err_from_is_err_and}
use Rattle.wk_body.proofs.Labels.{labels_begin, labels_go_on, labels_stop, labels_end}
use Rattle.wk_body.proofs.reading.labels_of.Goals as goal

pub loop-init : goal.loop-init
loop-init c = labels_begin c.args.scratch.now c.args.count c.args.cursor.now c.requires

pub add_label-requires : goal.add_label-requires
add_label-requires c = c.loop.invariant.labelled.good

pub loop-preserved : goal.loop-preserved
loop-preserved c =
    labels_go_on c.args.scratch.now c.loop.scratch c.add_label.new.self c.args.count c.loop.counter c.in_ok-label.label c.args.cursor.now c.loop.cursor
    c.u32.new.self _
    c.loop-test.true c.in_ok-label.ensures.exact c.in_ok-add_label.ensures c.loop.invariant

pub returns-in_err-label : goal.returns-in_err-label
returns-in_err-label c =
    let p = err_from_is_err_and c.from_residual.result c.from_residual.ensures.1 in
    rw (p.1, p.2) (labels_stop c.loop.invariant.labels c.in_err-label.field-0.0 c.args.count c.loop.counter c.args.cursor.now c.loop.cursor _
    c.loop-test.true c.in_err-label.ensures.fault.1 c.in_err-label.ensures.exact.0 c.loop.invariant.ahead)

pub returns : goal.returns
returns c = labels_end c.args.scratch.now c.loop.scratch c.args.count c.loop.counter c.args.cursor.now c.loop.cursor c.loop-test.false c.loop.invariant
