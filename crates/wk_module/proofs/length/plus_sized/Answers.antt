use Rattle.std.proofs.Common.{ap, ◌∙◌, arith}
use Rattle.wk_body.specs.Lengths.{limited}
use Rattle.wk_module.specs.WritingLaws.{size_some}
use Rattle.wk_module.proofs.length.plus_sized.Goals as goal

pub returns : goal.returns
returns c =
    λ n h. c.plus_size.ensures n h ∙ ap limited (omega (arith, size_some c.args.contents c.if-contents-eq0.false))
