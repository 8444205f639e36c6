use Rattle.std.proofs.Common.{arith, ◌-◌, sym, ◌∙◌, take}
use Rattle.std.proofs.lemmas.List.{get_or_default}
use Rattle.std.proofs.lemmas.Result.{err_from_is_err_and}
use Rattle.wk_typing.proofs.Popping.{pop_turn_ok, pop_turn_err, spent_pops}
use Rattle.wk_typing.proofs.operands.pop_types.Goals as goal

pub returns-then-is_spent : goal.returns-then-is_spent
returns-then-is_spent c = c.loop-n.invariant.1 ∙ spent_pops (take c.loop-n.n c.args.types.now) c.loop-n.s (sym c.is_spent.ensures ∙ c.if-is_spent.true)

pub loop-n-preserved : goal.loop-n-preserved
loop-n-preserved c = (
  omega arith,
  pop_turn_ok c.args.types.now c.loop-n.n _ _ c.loop-n.s (omega arith) c.loop-n.invariant.0
      (get_or_default c.args.types.now (c.loop-n.n - 1) _ _ (omega arith)) c.loop-n.invariant.1 _ _ c.in_ok-pop_known.ensures,
)

pub returns-in_err-pop_known : goal.returns-in_err-pop_known
returns-in_err-pop_known c =
    let p = err_from_is_err_and c.from_residual.result c.from_residual.ensures.1 in
    rw (p.1, p.2) (pop_turn_err c.args.types.now c.loop-n.n _ _ c.loop-n.s (omega arith) c.loop-n.invariant.0
    (get_or_default c.args.types.now (c.loop-n.n - 1) _ _ (omega arith)) c.loop-n.invariant.1 _ c.in_err-pop_known.ensures)
