use Rattle.wk_module.specs.NumberedLaws.{module_numbered}
use Rattle.wk_list.proofs.sketch.WholeSketch.parts.Goals as goal

pub returns-clause-numbered : goal.returns-clause-numbered
returns-clause-numbered g c = rw c.parts.ensures.value (module_numbered _ c.parts.ensures.shaped.formed)
