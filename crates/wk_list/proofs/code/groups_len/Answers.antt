use Rattle.std.proofs.Common.{arith}
use Rattle.wk_list.proofs.Offsets.{group_fits}
use Rattle.wk_list.proofs.code.groups_len.Goals as goal

pub overflow_add-total : goal.overflow_add-total
overflow_add-total c = omega (arith, group_fits _ _ _ _ c.leb_len_u32.ensures c.loop-group-test.true)

pub overflow_add-total-in-loop-group : goal.overflow_add-total-in-loop-group
overflow_add-total-in-loop-group c = omega (arith, group_fits _ _ _ _ c.leb_len_u32.ensures c.loop-group-test.true)
