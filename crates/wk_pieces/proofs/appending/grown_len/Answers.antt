use Rattle.std.proofs.Common.{◌+◌, arith}
use Rattle.wk_bytes.specs.ShortLaws.{short-few}
use Rattle.wk_pieces.proofs.appending.grown_len.Goals as goal

pub overflow_add-result : goal.overflow_add-result
overflow_add-result c =
    let few = short-few 32 (c.args.count + 1) (omega arith) c.requires in
    omega (arith, few, c.leb_len_u32.ensures)

pub overflow_add-result-2 : goal.overflow_add-result-2
overflow_add-result-2 c =
    let few = short-few 32 (c.args.count + 1) (omega arith) c.requires in
    omega (arith, few, c.leb_len_u32.ensures, c.ranges.item)
