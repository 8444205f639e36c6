use Rattle.std.proofs.Common.{refl, ap, ◌∙◌, arith}
use Rattle.wk_body.specs.Lengths.{limited}
use Rattle.wk_module.proofs.length.type_len.Goals as goal

pub returns : goal.returns
returns c = c.measure.ensures 0 refl ∙ ap limited (omega arith)
