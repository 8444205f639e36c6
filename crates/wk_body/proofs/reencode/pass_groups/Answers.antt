use Rattle.wk_body.proofs.RewrittenBody.{groups_one, groups_done}
use Rattle.wk_body.proofs.reencode.pass_groups.Goals as goal

pub loop-preserved : goal.loop-preserved
loop-preserved c =
    rw c.in-Some.ensures.1
    (groups_one c.args.count c.loop.counter c.loop.declared c.in_ok-count.count c.in_ok-pass_valtype.field-0 c.args.out.now.items c.loop.out.items
    c.pass_u32.new.out.items c.args.coder.now c.loop.own c.pass_u32.new.self c.pass_valtype.new.coder
    c.loop-test.true c.in-Some.ensures.0 c.loop.invariant c.in_ok-count.ensures c.in_ok-pass_valtype.ensures)

pub returns : goal.returns
returns c = groups_done c.args.count c.loop.counter c.loop.declared c.args.out.now.items c.loop.out.items c.args.coder.now c.loop.own c.loop-test.false
    c.loop.invariant
