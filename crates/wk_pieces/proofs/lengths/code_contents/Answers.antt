use Rattle.std.proofs.Common.{arith}
use Rattle.wk_bytes.specs.ShortLaws.{short-few}
use Rattle.wk_pieces.proofs.lengths.code_contents.Goals as goal

pub overflow_add-result : goal.overflow_add-result
overflow_add-result c =
    let few = short-few 32 c.args.count (omega arith) c.requires in
    omega (arith, few, c.leb_len_u32.ensures)
