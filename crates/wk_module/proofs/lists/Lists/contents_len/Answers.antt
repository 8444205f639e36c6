use Rattle.std.proofs.Common.{refl, ap, ◌∙◌, arith}
use Rattle.wk_body.specs.Lengths.{limited}
use Rattle.wk_module.proofs.lists.Lists.contents_len.Goals as goal

pub returns-in-Some : goal.returns-in-Some
returns-in-Some c = rw (c.in-8.is, c.in-Some.is) (c.plus_u32.ensures 0 refl ∙ ap limited (omega arith))
