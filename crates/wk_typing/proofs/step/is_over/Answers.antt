use Rattle.wk_typing.proofs.Alignment.{over}
use Rattle.wk_typing.proofs.step.is_over.Goals as goal

pub returns : goal.returns
returns c = over c.natural_align.result c.args.align _ c.natural_align.ensures
