use Rattle.std.proofs.Common.{arith}
use Rattle.wk_module.specs.Shape.{lists_of}
use Rattle.wk_module.proofs.WritingSteps.{left_out}
use Rattle.wk_module.proofs.module_write.put_section.Goals as goal

pub returns-then-size-eq0 : goal.returns-then-size-eq0
returns-then-size-eq0 c = left_out (lists_of c.args.parts.now) c.args.id c.in-Some.size c.args.bytes.now.items c.in-Some.ensures
    (omega (arith, c.if-size-eq0.true))
