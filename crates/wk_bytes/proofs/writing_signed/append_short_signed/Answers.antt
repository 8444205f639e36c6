use Rattle.std.proofs.Common.{rules, sym, ◌∙◌}
use Rattle.std.specs.Int.{w64}
use Rattle.std.proofs.lemmas.Int.{to_z-of_z}
use Rattle.wk_bytes.specs.ShortLaws.{short_signed-last}
use Rattle.wk_bytes.proofs.writing_signed.append_short_signed.Goals as goal

pub returns-then-len-capacity-clause-ok : goal.returns-then-len-capacity-clause-ok
returns-then-len-capacity-clause-ok c =
    let back = to_z-of_z w64 c.args.n c.ranges.n in
    let is_last = rw back at (sym c.is_last.ensures ∙ c.if-is_last.true) in
    let low = rw back at c.low_bits.ensures.value in
    rw (short_signed-last c.args.n is_last, sym low) (search rules)
