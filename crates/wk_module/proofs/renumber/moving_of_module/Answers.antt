use Rattle.wk_module.proofs.MovedFormed.{moved_formed}
use Rattle.wk_module.proofs.ShiftedLists.{lists_laid, func_stays}
use Rattle.wk_module.proofs.renumber.moving_of_module.Goals as goal

pub returns-clause-formed : goal.returns-clause-formed
returns-clause-formed c = moved_formed c.moving_of_code.ensures.shape c.moving_of_code.ensures.profile

pub returns-clause-lists : goal.returns-clause-lists
returns-clause-lists c = lists_laid c.moving_of_code.ensures.stays

pub returns-clause-funcs : goal.returns-clause-funcs
returns-clause-funcs c = func_stays c.moving_of_code.ensures.stays
