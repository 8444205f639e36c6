use Rattle.std.proofs.Common.{◌+◌, refl, sym, subst, arith}
use Rattle.wk_body.specs.declared.types.ValType.TheVariants.{I32}
use Rattle.wk_typing.specs.Locals.{AreFirst}
use Rattle.wk_typing.proofs.FirstLocals.{written_more}
use Rattle.wk_typing.proofs.locals.FirstLocals.put.Goals as goal

pub loop-group-init : goal.loop-group-init
loop-group-init c = (refl, λ x. rw c.begin.ensures refl)

pub loop-group-preserved : goal.loop-group-preserved
loop-group-preserved c = (
  omega (arith, c.loop-group.invariant.0),
  subst (AreFirst c.args.params.now c.args.groups.now (c.loop-group.group-index + 1)) (sym c.extend.ensures)
      (written_more c.args.params.now c.args.groups.now c.loop-group.group-index c.loop-group.self
      (record { count = 0; ty = I32 }) c.loop-group-test.true c.loop-group.invariant.1),
)
