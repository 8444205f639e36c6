use Rattle.wk_check.proofs.ValidGrowth.{valid_without, has_valid_bodies, verdicts_stay, references_stay}
use Rattle.wk_check.proofs.incremental.laws_of_valid_modules.Goals as goal

pub returns : goal.returns
returns c = record { without = valid_without; bodies = has_valid_bodies; stay = verdicts_stay; found = references_stay }
