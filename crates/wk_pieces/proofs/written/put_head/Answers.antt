use Rattle.std.proofs.Common.{refl}
use Rattle.wk_pieces.proofs.Putting.{takes, takes_first, takes_later}
use Rattle.wk_pieces.proofs.written.put_head.Goals as goal

pub returns-in_err-put_all-clause-taken : goal.returns-in_err-put_all-clause-taken
returns-in_err-put_all-clause-taken g c = takes_first _ _ _ _ _ _ _ c.from_residual.ensures c.in_err-put_all.ensures.err refl

pub returns-clause-taken : goal.returns-clause-taken
returns-clause-taken g c = takes_later _ _ _ _ _ _ _ c.in_ok-put_all.ensures.ok (takes _ _ _ _ c.out_u32.ensures.ok c.out_u32.ensures.err) refl
