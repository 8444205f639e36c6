use Rattle.std.proofs.Common.{[], ◌∷◌}
use Rattle.std.proofs.lemmas.Result.{err_from_is_err_and}
use Rattle.wk_typing.proofs.Popping.{takes_then, fails_first}
use Rattle.wk_typing.proofs.operands.unop_in_steps.Goals as goal

pub returns-in_err-pop_type : goal.returns-in_err-pop_type
returns-in_err-pop_type c =
    let p = err_from_is_err_and c.from_residual.result c.from_residual.ensures.1 in
    rw (p.1, p.2) (fails_first _ _ _ _ (takes_then (c.args.operand ∷ []) (c.args.given ∷ []) c.args.s.now) c.in_err-pop_type.ensures)
