use Rattle.std.proofs.Common.{to_z, rules, length, sym, ap, ◌∙◌, arith}
use Rattle.std.specs.Prelude.{FitsSigned}
use Rattle.std.specs.Int.{w64}
use Rattle.std.proofs.lemmas.Int.{to_z-of_z}
use Rattle.wk_bytes.specs.ShortLaws.{short_signed-last, short_signed-more}
use Rattle.wk_bytes.proofs.ShortLoop.{byte_more, byte_last}
use Rattle.wk_body.proofs.TokenBuffers.{signed_room}
use Rattle.wk_body.proofs.token_buffer.put_long_signed.Goals as goal

pub bounds-buf-end : goal.bounds-buf-end
bounds-buf-end c =
    let counted = rw (to_z-of_z w64 c.args.n c.ranges.n) at c.loop-buf.invariant.counted in
    omega (arith, signed_room c.args.n _ c.args.at c.loop-buf.end c.ranges.n counted)

pub overflow_add-end : goal.overflow_add-end
overflow_add-end c =
    let counted = rw (to_z-of_z w64 c.args.n c.ranges.n) at c.loop-buf.invariant.counted in
    omega (arith, signed_room c.args.n _ c.args.at c.loop-buf.end c.ranges.n counted)

pub overflow_add-result : goal.overflow_add-result
overflow_add-result c =
    let counted = rw (to_z-of_z w64 c.args.n c.ranges.n) at c.loop-buf.invariant.counted in
    omega (arith, signed_room c.args.n _ c.args.at c.loop-buf.end c.ranges.n counted)

pub loop-buf-preserved : goal.loop-buf-preserved
loop-buf-preserved c =
    let fits : FitsSigned w64 c.high_bits-rest.result = search rules in
    let more = short_signed-more (to_z w64 c.loop-buf.rest-bits) (sym c.is_last.ensures ∙ c.loop-buf-test.true) in
    let counted = rw (to_z-of_z w64 c.args.n c.ranges.n) at c.loop-buf.invariant.counted in
    let within = signed_room c.args.n _ c.args.at c.loop-buf.end c.ranges.n counted in
    rw (to_z-of_z w64 c.high_bits-rest.result fits, c.high_bits-rest.ensures, c.low_bits.ensures.value) (record {
      counted = omega (arith, ap length more, c.loop-buf.invariant.counted);
      spelled = byte_more c.loop-buf.buf _ _ _ c.loop-buf.end _ (omega arith) more c.loop-buf.invariant.spelled;
    })

pub bounds-buf-end-2 : goal.bounds-buf-end-2
bounds-buf-end-2 c =
    let counted = rw (to_z-of_z w64 c.args.n c.ranges.n) at c.loop-buf.invariant.counted in
    omega (arith, signed_room c.args.n _ c.args.at c.loop-buf.end c.ranges.n counted)

pub returns-clause-few : goal.returns-clause-few
returns-clause-few c =
    let counted = rw (to_z-of_z w64 c.args.n c.ranges.n) at c.loop-buf.invariant.counted in
    let within = signed_room c.args.n _ c.args.at c.loop-buf.end c.ranges.n counted in
    omega arith

pub returns-clause-bytes : goal.returns-clause-bytes
returns-clause-bytes c =
    let last = short_signed-last (to_z w64 c.loop-buf.rest-bits) (sym c.is_last.ensures ∙ c.loop-buf-test.false) in
    let counted = rw (to_z-of_z w64 c.args.n c.ranges.n) at c.loop-buf.invariant.counted in
    let within = signed_room c.args.n _ c.args.at c.loop-buf.end c.ranges.n counted in
    let spelled = rw (to_z-of_z w64 c.args.n c.ranges.n) at c.loop-buf.invariant.spelled in
    rw c.low_bits-2.ensures.value (byte_last c.loop-buf.buf _ _ c.loop-buf.end _ (omega arith) last spelled)
