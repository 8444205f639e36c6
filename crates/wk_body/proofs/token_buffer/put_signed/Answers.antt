use Rattle.std.proofs.Common.{rules, sym, ◌∙◌}
use Rattle.std.specs.Int.{w64}
use Rattle.std.proofs.lemmas.Int.{to_z-of_z}
use Rattle.wk_bytes.specs.ShortLaws.{short_signed-last}
use Rattle.wk_body.proofs.token_buffer.put_signed.Goals as goal

pub returns-then-is_last-clause-bytes : goal.returns-then-is_last-clause-bytes
returns-then-is_last-clause-bytes c =
    let back = to_z-of_z w64 c.args.n c.ranges.n in
    let is_last = rw back at (sym c.is_last.ensures ∙ c.if-is_last.true) in
    let low = rw back at c.low_bits.ensures.value in
    rw (short_signed-last c.args.n is_last, sym low) (search rules)
