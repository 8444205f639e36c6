use Rattle.std.proofs.Common.{◌∙◌, ap, nat_eq}
use Rattle.wk_typing.proofs.Cuts.{outermost}
use Rattle.wk_typing.proofs.stacks.Stacks.is_outermost.Goals as goal

pub returns : goal.returns
returns c =
    let n = c.self.inside.outer.ok.0 in
    c.is_empty.ensures ∙ ap (λ k. nat_eq k 0) n ∙ outermost c.self.inside.inner c.self.inside.outer.items _ _ c.self.view_is
