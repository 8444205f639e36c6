use Rattle.std.proofs.Common.{◌∙◌, ap, reverse}
use Rattle.wk_typing.proofs.Cuts.{pop_ctrl_levels, reverse_push}
use Rattle.wk_typing.proofs.stacks.Stacks.pop_ctrl.Goals as goal

pub returns-in-Some : goal.returns-in-Some
returns-in-Some c =
    pop_ctrl_levels c.self.inside.inner _ c.self.inside.operands.items _ c.self.view_is c.self.invariant (reverse c.pop.new.self.items) c.in-Some.frame
    (ap reverse c.in-Some.ensures.items ∙ reverse_push c.pop.new.self.items c.in-Some.frame) c.requires
