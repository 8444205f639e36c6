use Rattle.std.proofs.Common.{arith}
use Rattle.wk_list.proofs.Walk.{few_bytes}
use Rattle.wk_list.proofs.headers.contents_start.Goals as goal

pub overflow_cast-result : goal.overflow_cast-result
overflow_cast-result c = omega (arith, few_bytes c.args.size c.ranges.size.fits, c.leb_len_u32.ensures)

pub overflow_add-result-2 : goal.overflow_add-result-2
overflow_add-result-2 c = omega (arith, few_bytes c.args.size c.ranges.size.fits, c.leb_len_u32.ensures, c.requires)
