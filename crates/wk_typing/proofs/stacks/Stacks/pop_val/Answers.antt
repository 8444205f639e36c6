use Rattle.std.proofs.Common.{◌<◌, ◌≤◌, Result, Ok, length, arith, subst, sym}
use Rattle.wk_typing.specs.declared.fault.FaultKind.{FaultKind}
use Rattle.wk_typing.specs.Slots.{Slot}
use Rattle.wk_typing.specs.Own.{popped_any}
use Rattle.wk_typing.specs.Moves.{Pops, popped_on}
use Rattle.wk_typing.proofs.Cuts.{pop_cuts, pop_levels, pop_unreachable, pop_reachable}
use Rattle.wk_typing.proofs.stacks.Stacks.pop_val.Goals as goal
use Rattle.wk_typing.proofs.stacks.Stacks.pop_val.Goals.{then-self, else-self}

pub invariant_of-self : goal.invariant_of-self
invariant_of-self c =
    let lt : c.self.inside.inner.height < length c.self.inside.operands.items = omega (arith, c.self.inside.operands.ok.0) in
    pop_cuts c.self.inside.inner _ c.self.inside.operands.items c.pop.new.self.items c.in-Some.x _ c.self.view_is c.self.invariant c.in-Some.ensures.items lt

pub returns-then-self-len : goal.returns-then-self-len
returns-then-self-len c =
    let lt : c.self.inside.inner.height < length c.self.inside.operands.items = omega (arith, c.self.inside.operands.ok.0) in
    pop_levels c.self.inside.inner _ c.self.inside.operands.items c.pop.new.self.items c.in-Some.x _ c.self.view_is c.self.invariant c.in-Some.ensures.items lt

pub returns : goal.returns
returns c =
    let le : length c.self.inside.operands.items ≤ c.self.inside.inner.height = omega (arith, c.self.inside.operands.ok.0) in
    let P : Result Slot FaultKind → Type 0 = λ r. Pops (popped_on popped_any c.args.self.now) r c.args.self.now in
    elim c.if-self.branch [
      | then-self w ↦ subst P (sym w.result-is)
          (subst (λ x. P (Ok x)) (sym w.any.ensures)
          (pop_unreachable c.self.inside.inner _ c.self.inside.operands.items _ c.self.view_is le w.if-self.true))
      | else-self w ↦ subst P (sym w.result-is) (pop_reachable c.self.inside.inner _ c.self.inside.operands.items _ c.self.view_is le w.if-self.false)
    ]
