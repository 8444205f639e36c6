use Rattle.std.proofs.Common.{◌++◌, ◌∙◌, ◌<◌, ◌^◌, ap, arith}
use Rattle.wk_bytes.specs.HexDigitLaws.{padded_digits}
use Rattle.wk_answers.proofs.explaining.put_offset.Goals as goal

pub returns : goal.returns
returns c =
    let small : c.args.offset < 2 ^ 32 = c.ranges.offset.fits in
    let line = rw (c.laid_out.ensures, c.in_radix.ensures, padded_digits 7 c.args.offset (omega arith) (omega (arith, small))) at c.in_ok-line.ensures.ok in
    c.in_ok-extend_from_slice.ensures.items ∙ ap (λ b. c.args.text.now.items ++ b) (c.as_bytes.ensures.value ∙ line)
