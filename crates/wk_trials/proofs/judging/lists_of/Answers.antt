use Rattle.std.proofs.Common.{lit<}
use Rattle.wk_module.specs.NumberedLaws.{module_numbered_with}
use Rattle.wk_trials.proofs.judging.lists_of.Goals as goal

pub returns : goal.returns
returns c =
    rw (c.of.ensures.lists, c.parts.ensures.value) (module_numbered_with _ _ (lit< tt) c.parts.ensures.shaped.formed)
