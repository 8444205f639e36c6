use Rattle.wk_typing.proofs.Opcodes.{true_where, block_taken, loop_taken, if_taken}
use Rattle.wk_typing.proofs.fast_extended.fast_open_indexed.Goals as goal

pub returns-in-2-clause-taken : goal.returns-in-2-clause-taken
returns-in-2-clause-taken g c =
    true_where c.open_indexed.result (block_taken _ _ _ _ _ _ _ _ _ _ (rw c.in-2.is at c.in-Ok.ensures.exact)) c.open_indexed.ensures.taken

pub returns-in-3-clause-taken : goal.returns-in-3-clause-taken
returns-in-3-clause-taken g c =
    true_where c.open_indexed-in-3.result (loop_taken _ _ _ _ _ _ _ _ _ _ (rw c.in-3.is at c.in-Ok.ensures.exact)) c.open_indexed-in-3.ensures.taken

pub returns-in-4-clause-taken : goal.returns-in-4-clause-taken
returns-in-4-clause-taken g c =
    true_where c.open_indexed-in-4.result (if_taken _ _ _ _ _ _ _ _ _ _ (rw c.in-4.is at c.in-Ok.ensures.exact)) c.open_indexed-in-4.ensures.taken
