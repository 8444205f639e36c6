use Rattle.std.proofs.lemmas.Result.{err_from_is_err_and}
use Rattle.wk_body.proofs.Encoding.{front_then}
use Rattle.wk_body.proofs.writing.put_unbuffered.Goals as goal

pub returns-in_err-put_token-clause-err : goal.returns-in_err-put_token-clause-err
returns-in_err-put_token-clause-err c =
    let p = err_from_is_err_and c.from_residual.result c.from_residual.ensures.1 in
    rw p.1 (front_then c.args.out.now.items c.loop-token.out.items c.put_token.new.out.items (_, c.loop-token.invariant) c.in_err-put_token.ensures.err)
