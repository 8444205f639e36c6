use Rattle.std.proofs.Common.{sym}
use Rattle.wk_typing.proofs.Popping.{same_types_lengths}
use Rattle.wk_typing.proofs.operands.are_same.Goals as goal

pub returns-then-a-b : goal.returns-then-a-b
returns-then-a-b c = sym (same_types_lengths c.args.a.now c.args.b.now c.if-a-b.true)
