use Rattle.std.proofs.Common.{ap, ◌∙◌, arith}
use Rattle.wk_body.specs.Lengths.{limited}
use Rattle.wk_module.proofs.codes.plus_code.Goals as goal

pub returns : goal.returns
returns c = λ n h. c.plus.ensures _ (c.plus_u32.ensures n h) ∙ ap limited (omega arith)
