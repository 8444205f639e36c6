use Rattle.std.proofs.Common.{◌≡◌, ◌-◌, ◌∙◌, length, arith, get_or, ap}
use Rattle.wk_typing.proofs.Cuts.{head_none, head_some}
use Rattle.wk_typing.proofs.stacks.Stacks.head.Goals as goal

pub returns-then-depth-len : goal.returns-then-depth-len
returns-then-depth-len c =
    head_none c.self.inside.inner c.self.inside.outer.items c.self.inside.operands.items _ c.self.view_is c.args.depth (omega (arith, c.self.inside.outer.ok.0))

pub returns : goal.returns
returns c =
    let n : c.len-2.result ≡ length c.self.inside.outer.items = omega (arith, c.self.inside.outer.ok.0) in
    let g = c.index-frame.result.now in
    head_some c.self.inside.inner c.self.inside.outer.items c.self.inside.operands.items _ c.self.view_is c.args.depth g
    (omega (arith, c.self.inside.outer.ok.0)) (omega arith) (c.index-frame.ensures ∙ ap (λ k. get_or c.self.inside.outer.items (k - c.args.depth) g) n)
