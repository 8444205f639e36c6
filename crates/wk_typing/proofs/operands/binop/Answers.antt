use Rattle.std.proofs.Common.{◌∙◌}
use Rattle.wk_typing.proofs.Popping.{binop_is}
use Rattle.wk_typing.proofs.operands.binop.Goals as goal

pub returns-then-binop_top : goal.returns-then-binop_top
returns-then-binop_top c =
    let done = c.binop_top.ensures.applied c.if-binop_top.true in
    binop_is c.args.operand c.args.given c.args.s.now ∙ rw (c.known.ensures, c.known-2.ensures) at done
