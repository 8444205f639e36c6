use Rattle.std.proofs.Common.{arith}
use Rattle.wk_module.specs.Listed.{listed}
use Rattle.wk_module.proofs.WritingSteps.{left_out}
use Rattle.wk_module.proofs.module_write.put_section_by.Goals as goal

pub returns-then-contents-eq0-clause-ok : goal.returns-then-contents-eq0-clause-ok
returns-then-contents-eq0-clause-ok c = left_out (listed c.args.lists.now) c.args.id c.args.contents c.args.bytes.now.items c.requires (omega (arith, c.if-contents-eq0.true))
