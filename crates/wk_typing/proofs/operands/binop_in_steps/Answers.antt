use Rattle.std.proofs.Common.{[], ◌∷◌}
use Rattle.std.proofs.lemmas.Result.{err_from_is_err_and}
use Rattle.wk_typing.proofs.Popping.{takes_last, fails_first, steps_then}
use Rattle.wk_typing.proofs.operands.binop_in_steps.Goals as goal

pub returns-in_err-pop_type : goal.returns-in_err-pop_type
returns-in_err-pop_type c =
    let p = err_from_is_err_and c.from_residual.result c.from_residual.ensures.1 in
    rw (p.1, p.2) (fails_first _ _ _ _ (takes_last c.args.operand (c.args.operand ∷ []) (c.args.given ∷ []) c.args.s.now) c.in_err-pop_type.ensures)

pub returns : goal.returns
returns c =
    steps_then _ _ _ _ c.unop_in_steps.result c.unop_in_steps.new.s
    (takes_last c.args.operand (c.args.operand ∷ []) (c.args.given ∷ []) c.args.s.now) c.in_ok-pop_type.ensures c.unop_in_steps.ensures
