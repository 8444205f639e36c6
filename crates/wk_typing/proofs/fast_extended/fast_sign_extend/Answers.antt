use Rattle.wk_typing.proofs.Opcodes.{true_where, sign_taken}
use Rattle.wk_typing.proofs.fast_extended.fast_sign_extend.Goals as goal

pub returns-in-192-to-196-clause-taken : goal.returns-in-192-to-196-clause-taken
returns-in-192-to-196-clause-taken g c = λ r.
    true_where c.type_sign_extend.result (sign_taken _ _ _ _ _ _ _ _ c.in-Ok.ensures.exact) c.type_sign_extend.ensures.taken
