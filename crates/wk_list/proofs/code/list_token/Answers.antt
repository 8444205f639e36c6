use Rattle.wk_list.proofs.TakenLemmas.{stopped}
use Rattle.wk_list.proofs.code.list_token.Goals as goal

pub returns-in_err-list_long_line-clause-puts : goal.returns-in_err-list_long_line-clause-puts
returns-in_err-list_long_line-clause-puts g c = stopped (rw c.in_default.ensures.none at c.in_err-list_long_line.ensures) c.from_residual.ensures
