use Rattle.std.proofs.Common.{◌≤◌, ◌+◌, ◌-◌, ◌≡◌, length, arith, refl, sym, ◌∙◌}
use Rattle.wk_typing.proofs.Cuts.{binop_cuts, binop_levels}
use Rattle.wk_typing.proofs.stacks.Stacks.binop_top.Goals as goal

pub invariant_of-self : goal.invariant_of-self
invariant_of-self c =
    let xs = c.self.inside.operands.items in
    let le : c.self.inside.inner.height + 2 ≤ length xs = omega (arith, c.self.inside.operands.ok.0) in
    let last : c.len-len.result - 2 + 2 ≡ length xs = omega (arith, c.self.inside.operands.ok.0) in
    let n : c.len-len.result - 1 ≡ c.len-len.result - 2 + 1 = omega (arith, c.self.inside.operands.ok.0) in
    let at = rw n at c.index.ensures in
    let cut = rw n at c.truncate.ensures.items in
    let x = c.index.result.now in
    let y = c.index-else-not-fits.result.now in
    binop_cuts c.self.inside.inner _ xs c.truncate.new.self.items _ (c.len-len.result - 2) x y c.args.given _ c.self.view_is c.self.invariant le last
    at c.index-else-not-fits.ensures cut refl

pub returns-clause-applied : goal.returns-clause-applied
returns-clause-applied c = λ yes.
    let xs = c.self.inside.operands.items in
    let le : c.self.inside.inner.height + 2 ≤ length xs = omega (arith, c.self.inside.operands.ok.0) in
    let last : c.len-len.result - 2 + 2 ≡ length xs = omega (arith, c.self.inside.operands.ok.0) in
    let n : c.len-len.result - 1 ≡ c.len-len.result - 2 + 1 = omega (arith, c.self.inside.operands.ok.0) in
    let at = rw n at c.index.ensures in
    let cut = rw n at c.truncate.ensures.items in
    let fit = sym c.fits.ensures ∙ c.if-not-fits.false in
    let fit' = sym c.fits-else-not-fits.ensures ∙ c.if-not-fits-2.false in
    let x = c.index.result.now in
    let y = c.index-else-not-fits.result.now in
    binop_levels c.self.inside.inner _ xs c.truncate.new.self.items _ (c.len-len.result - 2) x y c.args.given _ c.self.view_is c.self.invariant le last
    at c.index-else-not-fits.ensures cut refl c.args.want fit fit'
