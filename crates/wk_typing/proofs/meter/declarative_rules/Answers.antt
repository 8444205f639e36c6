use Rattle.wk_typing.proofs.DerivedParts.{part_by_part}
use Rattle.wk_typing.proofs.meter.declarative_rules.Goals as goal

pub returns : goal.returns
returns c = part_by_part
