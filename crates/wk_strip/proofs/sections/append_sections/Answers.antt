use Rattle.std.proofs.Common.{arith}
use Rattle.wk_module.specs.Listed.{listed}
use Rattle.wk_strip.proofs.Assembled.{one_section}
use Rattle.wk_strip.proofs.sections.append_sections.Goals as goal

pub loop-id-preserved : goal.loop-id-preserved
loop-id-preserved c = record {
  least = omega (arith, c.loop-id.invariant.least);
  left = one_section (listed c.args.lists.now) c.args.customs.now c.loop-id.id c.args.end _ _ _ _
      (omega arith) c.in_ok-append_section.ensures.ok c.in_ok-append_customs.ensures c.loop-id.invariant.left;
}
