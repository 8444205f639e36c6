use Rattle.std.proofs.Common.{refl}
use Rattle.wk_pieces.proofs.Putting.{takes, takes_first, takes_later}
use Rattle.wk_pieces.proofs.written.put_bytes.Goals as goal

pub returns-in_err-out_u32-clause-taken : goal.returns-in_err-out_u32-clause-taken
returns-in_err-out_u32-clause-taken g c = takes_first _ _ _ _ c.args.bytes.now _ _ c.from_residual.ensures c.in_err-out_u32.ensures.err refl

pub returns-clause-taken : goal.returns-clause-taken
returns-clause-taken g c = takes_later _ _ _ _ _ _ _ c.in_ok-out_u32.ensures.ok (takes _ _ _ _ c.put_all.ensures.ok c.put_all.ensures.err) refl
