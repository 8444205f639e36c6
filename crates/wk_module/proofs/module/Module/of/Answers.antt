use Rattle.wk_module.specs.ShapeLaws.{settle_shaped}
use Rattle.wk_module.proofs.module.Module.of.Goals as goal

pub invariant_of-result : goal.invariant_of-result
invariant_of-result c = rw (c.settle_customs-customs.ensures, c.filled_ids-filled.ensures) (settle_shaped c.args.parts c.requires)
