use Rattle.wk_typing.proofs.Cuts.{unreachable_cuts, unreachable_levels}
use Rattle.wk_typing.proofs.stacks.Stacks.unreachable.Goals as goal

pub invariant_of-self : goal.invariant_of-self
invariant_of-self c = unreachable_cuts c.self.inside.inner _ c.self.inside.operands.items _ c.self.view_is c.self.invariant c.truncate.new.self.items
    c.truncate.ensures.items

pub returns : goal.returns
returns c =
    unreachable_levels c.self.inside.inner _ c.self.inside.operands.items _ c.self.view_is c.self.invariant c.truncate.new.self.items c.truncate.ensures.items
