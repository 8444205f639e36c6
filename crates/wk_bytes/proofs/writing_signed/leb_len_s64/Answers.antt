use Rattle.std.proofs.Common.{to_z, rules, length, sym, ap, ◌∙◌, arith}
use Rattle.std.specs.Prelude.{FitsSigned}
use Rattle.std.specs.Int.{w64}
use Rattle.std.proofs.lemmas.Int.{to_z-of_z}
use Rattle.wk_bytes.specs.ShortLaws.{short_signed-last, short_signed-more, signed_few}
use Rattle.wk_bytes.proofs.writing_signed.leb_len_s64.Goals as goal

pub overflow_add-len : goal.overflow_add-len
overflow_add-len c =
    let counted = rw (to_z-of_z w64 c.args.n c.ranges.n) at c.loop-rest.invariant in
    omega (arith, counted, signed_few c.args.n c.ranges.n)

pub loop-rest-preserved : goal.loop-rest-preserved
loop-rest-preserved c =
    let fits : FitsSigned w64 c.high_bits-rest.result = search rules in
    let more = short_signed-more (to_z w64 c.loop-rest.rest-bits) (sym c.is_last.ensures ∙ c.loop-rest-test.true) in
    rw (to_z-of_z w64 c.high_bits-rest.result fits, c.high_bits-rest.ensures) (omega (arith, ap length more, c.loop-rest.invariant))

pub returns : goal.returns
returns c =
    let last = short_signed-last (to_z w64 c.loop-rest.rest-bits) (sym c.is_last.ensures ∙ c.loop-rest-test.false) in
    let counted = rw (to_z-of_z w64 c.args.n c.ranges.n) at c.loop-rest.invariant in
    omega (arith, ap length last, counted)
