use Rattle.std.proofs.Common.{length, ap, arith}
use Rattle.wk_bytes.specs.ShortLaws.{short-last, short-more}
use Rattle.wk_bytes.proofs.ShortLoop.{byte_more, byte_last}
use Rattle.wk_body.proofs.TokenBuffers.{room}
use Rattle.wk_body.proofs.token_buffer.put_long.Goals as goal

pub bounds-buf-end : goal.bounds-buf-end
bounds-buf-end c = omega (arith, room c.args.n c.loop-rest.rest c.args.at c.loop-rest.end (omega arith) c.loop-rest.invariant.counted)

pub overflow_add-end : goal.overflow_add-end
overflow_add-end c = omega (arith, room c.args.n c.loop-rest.rest c.args.at c.loop-rest.end (omega arith) c.loop-rest.invariant.counted)

pub overflow_add-result : goal.overflow_add-result
overflow_add-result c = omega (arith, room c.args.n c.loop-rest.rest c.args.at c.loop-rest.end (omega arith) c.loop-rest.invariant.counted)

pub loop-rest-preserved : goal.loop-rest-preserved
loop-rest-preserved c =
    let more = short-more c.loop-rest.rest c.loop-rest-test.true in
    let within = room c.args.n c.loop-rest.rest c.args.at c.loop-rest.end (omega arith) c.loop-rest.invariant.counted in
    record {
      counted = omega (arith, ap length more);
      spelled = byte_more c.loop-rest.buf _ _ _ c.loop-rest.end _ (omega arith) more c.loop-rest.invariant.spelled;
    }

pub bounds-buf-end-2 : goal.bounds-buf-end-2
bounds-buf-end-2 c = omega (arith, room c.args.n c.loop-rest.rest c.args.at c.loop-rest.end (omega arith) c.loop-rest.invariant.counted)

pub returns-clause-few : goal.returns-clause-few
returns-clause-few c =
    let within = room c.args.n c.loop-rest.rest c.args.at c.loop-rest.end (omega arith) c.loop-rest.invariant.counted in
    omega arith

pub returns-clause-bytes : goal.returns-clause-bytes
returns-clause-bytes c =
    let within = room c.args.n c.loop-rest.rest c.args.at c.loop-rest.end (omega arith) c.loop-rest.invariant.counted in
    byte_last c.loop-rest.buf _ _ c.loop-rest.end _ (omega arith) (short-last c.loop-rest.rest c.loop-rest-test.false) c.loop-rest.invariant.spelled
