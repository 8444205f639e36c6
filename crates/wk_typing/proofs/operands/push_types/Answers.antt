use Rattle.std.proofs.lemmas.List.{get_or_default}
use Rattle.wk_typing.proofs.Popping.{push_turn}
use Rattle.wk_typing.proofs.operands.push_types.Goals as goal

pub loop-ty-preserved : goal.loop-ty-preserved
loop-ty-preserved c = push_turn c.args.types.now c.loop-ty.ty-index _ c.args.s.now c.loop-ty.s _ c.loop-ty-test.true
    (get_or_default c.args.types.now c.loop-ty.ty-index _ _ c.loop-ty-test.true) c.loop-ty.invariant c.in_ok-push_known.ensures
