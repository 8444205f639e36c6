use Rattle.std.proofs.Common.{refl, ap, ◌∙◌, arith}
use Rattle.wk_body.specs.Lengths.{limited}
use Rattle.wk_module.specs.WritingLaws.{length-encoded}
use Rattle.wk_module.proofs.length.len_by_code.Goals as goal

pub returns : goal.returns
returns c =
    let total = c.plus_customs.ensures _ (c.plus_sections-total.ensures 8 refl) in
    total ∙ ap limited (omega (arith, length-encoded c.args.parts.now c.requires.order))
