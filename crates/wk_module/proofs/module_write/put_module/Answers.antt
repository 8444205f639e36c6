use Rattle.std.proofs.Common.{arith}
use Rattle.wk_module.proofs.WritingSteps.{both_fit, one_more}
use Rattle.wk_module.proofs.module_write.put_module.Goals as goal

pub put_section-requires-clause-fits : goal.put_section-requires-clause-fits
put_section-requires-clause-fits c =
    let fit = both_fit c.args.parts.now c.loop-id.id (omega arith) c.requires.fits in
    omega (arith, fit)

pub put_customs_at-requires : goal.put_customs_at-requires
put_customs_at-requires c =
    let fit = both_fit c.args.parts.now c.loop-id.id (omega arith) c.requires.fits in
    omega (arith, fit)

pub loop-id-preserved : goal.loop-id-preserved
loop-id-preserved c =
    one_more c.args.parts.now c.loop-id.id _ _ _ _ (omega arith) c.in_ok-put_section.ensures c.in_ok-put_customs_at.ensures c.loop-id.invariant
