use Rattle.std.proofs.Common.{◌∙◌}
use Rattle.wk_typing.proofs.Popping.{unop_is}
use Rattle.wk_typing.proofs.operands.unop.Goals as goal

pub returns-then-unop_top : goal.returns-then-unop_top
returns-then-unop_top c =
    let done = c.unop_top.ensures.applied c.if-unop_top.true in
    unop_is c.args.operand c.args.given c.args.s.now ∙ rw (c.known.ensures, c.known-2.ensures) at done
