use Rattle.std.proofs.Common.{◌∙◌}
use Rattle.std.proofs.lemmas.Result.{err_from_is_err_and}
use Rattle.wk_body.proofs.Encoding.{front_then, front_same}
use Rattle.wk_body.proofs.writing.put_groups.Goals as goal

pub returns-in_err-put_u32-clause-err : goal.returns-in_err-put_u32-clause-err
returns-in_err-put_u32-clause-err c =
    let p = err_from_is_err_and c.from_residual.result c.from_residual.ensures.1 in
    let before = c.loop-group.out.items in
    rw p.1 (front_then c.args.out.now.items before c.put_u32.new.out.items (_, c.loop-group.invariant)
    (front_same before c.put_u32.new.out.items c.in_err-put_u32.ensures.err))

pub returns-in_err-put_byte-clause-err : goal.returns-in_err-put_byte-clause-err
returns-in_err-put_byte-clause-err c =
    let p = err_from_is_err_and c.from_residual-in_err-put_byte.result c.from_residual-in_err-put_byte.ensures.1 in
    rw p.1 (front_then c.args.out.now.items c.loop-group.out.items c.put_byte.new.out.items (_, c.loop-group.invariant)
    (_, c.in_err-put_byte.ensures.err ∙ c.in_ok-put_u32.ensures.ok))
