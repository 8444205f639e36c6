use Rattle.std.proofs.Common.{◌++◌, ◌∷◌, [], ap, ◌∙◌}
use Rattle.wk_typing.proofs.Cuts.{push_cuts, push_levels}
use Rattle.wk_typing.proofs.stacks.Stacks.push_growing.Goals as goal

pub invariant_of-self-2 : goal.invariant_of-self-2
invariant_of-self-2 c = push_cuts c.self.inside.inner _ c.self.inside.operands.items c.push_reserved.new.self.items c.args.x _ c.self.view_is
    c.self.invariant (c.push_reserved.ensures.items ∙ ap (λ xs. xs ++ c.args.x ∷ []) c.reserve.ensures.items)

pub returns : goal.returns
returns c = push_levels c.self.inside.inner _ c.self.inside.operands.items c.push_reserved.new.self.items c.args.x _ c.self.view_is
    c.self.invariant (c.push_reserved.ensures.items ∙ ap (λ xs. xs ++ c.args.x ∷ []) c.reserve.ensures.items)
