use Rattle.std.proofs.Common.{◌<◌, ◌+◌, ◌-◌, ◌≡◌, length, arith, refl, sym, ◌∙◌}
use Rattle.wk_typing.proofs.Cuts.{unop_cuts, unop_levels}
use Rattle.wk_typing.proofs.stacks.Stacks.unop_top.Goals as goal

pub invariant_of-self : goal.invariant_of-self
invariant_of-self c =
    let xs = c.self.inside.operands.items in
    let lt : c.self.inside.inner.height < length xs = omega (arith, c.self.inside.operands.ok.0) in
    let last : c.len-len.result - 1 + 1 ≡ length xs = omega (arith, c.self.inside.operands.ok.0) in
    unop_cuts c.self.inside.inner _ xs _ (c.len-len.result - 1) c.index.result.now c.args.given _ c.self.view_is c.self.invariant lt last c.index.ensures refl

pub returns-clause-applied : goal.returns-clause-applied
returns-clause-applied c = λ yes.
    let xs = c.self.inside.operands.items in
    let lt : c.self.inside.inner.height < length xs = omega (arith, c.self.inside.operands.ok.0) in
    let last : c.len-len.result - 1 + 1 ≡ length xs = omega (arith, c.self.inside.operands.ok.0) in
    let fit = sym c.fits.ensures ∙ c.if-not-fits.false in
    let x = c.index.result.now in
    unop_levels c.self.inside.inner _ xs _ (c.len-len.result - 1) x c.args.given _ c.self.view_is c.self.invariant lt last c.index.ensures refl c.args.want fit
