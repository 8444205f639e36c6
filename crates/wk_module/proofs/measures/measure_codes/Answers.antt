use Rattle.std.proofs.Common.{Some, ap, arith, length}
use Rattle.wk_module.specs.Sections.{CodeSection}
use Rattle.wk_module.specs.Codes.{code_contents}
use Rattle.wk_module.specs.WritingLaws.{contents_within}
use Rattle.wk_module.proofs.measures.measure_codes.Goals as goal

pub returns-in-Err-TooLarge : goal.returns-in-Err-TooLarge
returns-in-Err-TooLarge c =
    let m = c.args.parts.now in
    let past = c.in-Err-TooLarge.ensures.too_large c.in-Err-TooLarge.field-0-is in
    omega (arith, past, contents_within m (Some CodeSection), ap (λ fs. length (code_contents fs)) c.as_slice.ensures)
