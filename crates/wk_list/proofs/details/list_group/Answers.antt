use Rattle.std.proofs.Common.{◌+◌, refl}
use Rattle.wk_list.specs.Details.{row_line}
use Rattle.wk_list.specs.Text.{numbered}
use Rattle.wk_list.proofs.Headings.{heading_put}
use Rattle.wk_list.proofs.LineSteps.{line_put, two_put}
use Rattle.wk_list.proofs.TakenLemmas.{all_left, puts_on, refused, stopped}
use Rattle.wk_list.proofs.details.list_group.Goals as goal

pub loop-index-init : goal.loop-index-init
loop-index-init g c =
    all_left (heading_put c.args.id (numbered (λ n. row_line g.R.Row.rest c.args.name.now (c.args.first + n)) 0) refl c.args.items.now _ _ _
    c.len.ensures c.in_ok-put_heading.ensures)

pub returns-in_err-put_item : goal.returns-in_err-put_item
returns-in_err-put_item g c = refused c.loop-index.invariant c.from_residual-in_err-put_item.ensures

pub returns-in_err-put_row : goal.returns-in_err-put_row
returns-in_err-put_row g c = refused c.loop-index.invariant c.from_residual-in_err-put_row.ensures

pub returns-in_err-spill : goal.returns-in_err-spill
returns-in_err-spill g c =
    let step = line_put (row_line g.R.Row.rest c.args.name.now) c.args.items.now c.args.first c.from.result c.loop-index.index c.item-item.result
    c.loop-index.text.items _ c.from.ensures (rw c.as_slice-item-items.ensures at c.loop-index-test.true)
    (rw c.as_slice-item-items.ensures at c.item-item.is) (two_put _ _ _ _ _ c.in_ok-put_item.ensures c.in_ok-put_row.ensures) in
    stopped (puts_on _ c.loop-index.invariant step c.in_err-spill.ensures) c.from_residual-in_err-spill.ensures

pub loop-index-preserved : goal.loop-index-preserved
loop-index-preserved g c =
    let step = line_put (row_line g.R.Row.rest c.args.name.now) c.args.items.now c.args.first c.from.result c.loop-index.index c.item-item.result
    c.loop-index.text.items _ c.from.ensures (rw c.as_slice-item-items.ensures at c.loop-index-test.true)
    (rw c.as_slice-item-items.ensures at c.item-item.is) (two_put _ _ _ _ _ c.in_ok-put_item.ensures c.in_ok-put_row.ensures) in
    puts_on _ c.loop-index.invariant step c.in_ok-spill.ensures
