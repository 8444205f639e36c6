use Rattle.std.proofs.Common.{[], ◌∷◌}
use Rattle.wk_typing.proofs.Popping.{takes_last, steps_then}
use Rattle.wk_typing.proofs.operands.pop_two.Goals as goal

pub returns : goal.returns
returns c =
    steps_then _ _ _ _ c.pop_val.result c.pop_val.new.s (takes_last c.args.first (c.args.second ∷ []) [] c.args.s.now)
    c.in_ok-pop_type.ensures c.pop_val.ensures
