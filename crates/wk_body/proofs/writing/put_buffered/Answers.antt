use Rattle.std.proofs.Common.{◌++◌, refl, arith, get_or, take}
use Rattle.std.proofs.lemmas.Grind.{common_steps}
use Rattle.std.proofs.lemmas.Result.{err_from_is_err_and}
use Rattle.std.specs.List.{flat_map}
use Rattle.wk_body.specs.declared.token.Token.TheVariants.{Unreachable}
use Rattle.wk_body.specs.Kept.{told, all_told}
use Rattle.wk_body.specs.Written.{tok_bytes}
use Rattle.wk_body.proofs.Encoding.{front_same, front_then}
use Rattle.wk_body.proofs.TokenBuffers.{token_more}
use Rattle.wk_body.proofs.writing.put_buffered.Goals as goal

pub loop-token-init : goal.loop-token-init
loop-token-init c = record { written = refl; inside = omega arith; front = front_same c.args.out.now.items c.args.out.now.items refl }

pub returns-in_err-used-clause-err : goal.returns-in_err-used-clause-err
returns-in_err-used-clause-err c =
    let p = err_from_is_err_and c.from_residual.result c.from_residual.ensures.1 in
    rw p.1 (front_then c.args.out.now.items c.loop-token.out.items _ c.loop-token.invariant.front c.in_err-used.ensures.front)

pub loop-token-preserved : goal.loop-token-preserved
loop-token-preserved c =
    let all = c.args.out.now.items ++ flat_map tok_bytes (all_told c.args.labels.now (take c.loop-token.token-index c.args.tokens.now)) in
    let token = get_or c.args.tokens.now c.loop-token.token-index Unreachable in
    let more = token_more c.loop-token.out.items c.buffer_token.new.out.items (take c.loop-token.used c.loop-token.buf)
    (take c.in_ok-used.used c.buffer_token.new.buf)
    (tok_bytes (told c.args.labels.now token)) all c.loop-token.invariant.written c.in_ok-used.ensures.ok in
    record {
      written = grind (arith, common_steps, more);
      inside = c.in_ok-used.ensures.inside;
      front = front_then c.args.out.now.items c.loop-token.out.items _ c.loop-token.invariant.front c.in_ok-used.ensures.front;
    }

pub returns-in_err-extend_from_slice-clause-err : goal.returns-in_err-extend_from_slice-clause-err
returns-in_err-extend_from_slice-clause-err c =
    let p = err_from_is_err_and c.from_residual-in_err-extend_from_slice.result c.from_residual-in_err-extend_from_slice.ensures.1 in
    let before = c.loop-token.out.items in
    rw p.1 (front_then c.args.out.now.items before _ c.loop-token.invariant.front (front_same before _ c.in_err-extend_from_slice.ensures.items))
