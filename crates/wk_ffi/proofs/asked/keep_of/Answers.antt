use Rattle.wk_ffi.proofs.Names.{kept, not_kept}
use Rattle.wk_ffi.proofs.asked.keep_of.Goals as goal

pub returns-in-Ok : goal.returns-in-Ok
returns-in-Ok c = kept c.in-Ok.name.now c.args.name.now c.in-Ok.ensures.cases.0 c.if-is_empty.ensures c.in-Ok.ensures.cases.1

pub returns-in-Err : goal.returns-in-Err
returns-in-Err c = not_kept c.args.name.now c.if-is_empty.ensures c.in-Err.ensures.cases.0
