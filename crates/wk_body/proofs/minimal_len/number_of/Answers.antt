use Rattle.std.proofs.Common.{arith}
use Rattle.wk_body.proofs.OpenBlocks.{front_short}
use Rattle.wk_body.proofs.minimal_len.number_of.Goals as goal

pub overflow_mul-number : goal.overflow_mul-number
overflow_mul-number c = let short = front_short c.args.blocks.now c.loop-block.block-index c.loop-block.number c.requires c.loop-block.invariant in
    omega (arith, short)

pub overflow_add-number : goal.overflow_add-number
overflow_add-number c = let short = front_short c.args.blocks.now c.loop-block.block-index c.loop-block.number c.requires c.loop-block.invariant in
    grind (arith, short, c.from.ensures)

pub returns-clause-small : goal.returns-clause-small
returns-clause-small c = let short = front_short c.args.blocks.now c.loop-block.block-index c.loop-block.number c.requires c.loop-block.invariant in
    omega (arith, short)
