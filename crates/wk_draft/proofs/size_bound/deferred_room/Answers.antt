use Rattle.wk_draft.proofs.Rooms.{one_grown, all_grown}
use Rattle.wk_draft.proofs.size_bound.deferred_room.Goals as goal

pub loop-code-preserved : goal.loop-code-preserved
loop-code-preserved c = record {
  total = one_grown c.deref-code-items.result.now c.loop-code.code-index c.len.result c.in_ok-checked_mul.field-0 c.in_ok-more.more c.loop-code.total
      c.in_ok-total.total c.code-item.result c.loop-code-test.true c.code-item.is c.len.ensures c.in_ok-checked_mul.ensures.1 c.in_ok-more.ensures.1
      c.in_ok-total.ensures.1 c.loop-code.invariant.total;
}

pub returns : goal.returns
returns c = rw (← c.deref-code-items.ensures.value)
    (all_grown _ c.deref-code-items.result.now c.loop-code.code-index c.loop-code.total c.checked_add-2.result c.loop-code-test.false
    c.loop-code.invariant.total c.checked_add-2.ensures)
