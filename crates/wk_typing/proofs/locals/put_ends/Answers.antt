use Rattle.std.proofs.Common.{arith}
use Rattle.wk_body.specs.declared.types.ValType.TheVariants.{I32}
use Rattle.wk_typing.proofs.LocalEnds.{ending_first, ending_within, ending_more, ending_last}
use Rattle.wk_typing.proofs.locals.put_ends.Goals as goal

pub loop-group-init : goal.loop-group-init
loop-group-init c = ending_first c.args.groups.now c.clear.new.self.items c.clear.ensures.items

pub overflow_add-total : goal.overflow_add-total
overflow_add-total c =
    let within = ending_within c.args.groups.now c.loop-group.group-index c.loop-group.total c.loop-group.ends.items
    (record { count = 0; ty = I32 }) c.loop-group-test.true c.loop-group.invariant in
    omega arith

pub loop-group-preserved : goal.loop-group-preserved
loop-group-preserved c =
    rw c.in_ok-push.ensures.items
    (ending_more c.args.groups.now c.loop-group.group-index c.loop-group.total c.loop-group.ends.items
    (record { count = 0; ty = I32 }) c.loop-group-test.true c.loop-group.invariant)

pub returns : goal.returns
returns c = ending_last c.args.groups.now c.loop-group.group-index c.loop-group.total c.loop-group.ends.items c.loop-group-test.false c.loop-group.invariant
