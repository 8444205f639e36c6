use Rattle.std.proofs.Common.{to_z, rules, length, sym, ap, ◌∙◌, arith}
use Rattle.std.specs.Prelude.{FitsSigned}
use Rattle.std.specs.Int.{w64}
use Rattle.std.proofs.lemmas.Int.{to_z-of_z}
use Rattle.wk_bytes.specs.ShortLaws.{short_signed-last, short_signed-more}
use Rattle.wk_bytes.proofs.ShortLoop.{byte_more, byte_last, signed_room}
use Rattle.wk_bytes.proofs.writing_signed.write_short_signed.Goals as goal

pub bounds-bytes-len : goal.bounds-bytes-len
bounds-bytes-len c = signed_room c.args.n _ c.loop-bytes.len c.ranges.n c.loop-bytes.invariant.counted

pub loop-bytes-preserved : goal.loop-bytes-preserved
loop-bytes-preserved c =
    let fits : FitsSigned w64 c.high_bits-rest.result = search rules in
    let more = short_signed-more (to_z w64 c.loop-bytes.rest-bits) (sym c.is_last.ensures ∙ c.loop-bytes-test.true) in
    let within = signed_room c.args.n _ c.loop-bytes.len c.ranges.n c.loop-bytes.invariant.counted in
    rw (to_z-of_z w64 c.high_bits-rest.result fits, c.high_bits-rest.ensures, c.low_bits.ensures.value) (record {
      counted = omega (arith, ap length more, c.loop-bytes.invariant.counted);
      spelled = byte_more c.loop-bytes.bytes _ _ _ c.loop-bytes.len _ (omega arith) more c.loop-bytes.invariant.spelled;
    })

pub bounds-bytes-len-2 : goal.bounds-bytes-len-2
bounds-bytes-len-2 c = signed_room c.args.n _ c.loop-bytes.len c.ranges.n c.loop-bytes.invariant.counted

pub returns-clause-len : goal.returns-clause-len
returns-clause-len c =
    let within = signed_room c.args.n _ c.loop-bytes.len c.ranges.n c.loop-bytes.invariant.counted in
    omega arith

pub returns-clause-value : goal.returns-clause-value
returns-clause-value c =
    let last = short_signed-last (to_z w64 c.loop-bytes.rest-bits) (sym c.is_last.ensures ∙ c.loop-bytes-test.false) in
    let within = signed_room c.args.n _ c.loop-bytes.len c.ranges.n c.loop-bytes.invariant.counted in
    let spelled = rw (to_z-of_z w64 c.args.n c.ranges.n) at c.loop-bytes.invariant.spelled in
    rw c.low_bits-2.ensures.value (byte_last c.loop-bytes.bytes _ _ c.loop-bytes.len _ (omega arith) last spelled)
