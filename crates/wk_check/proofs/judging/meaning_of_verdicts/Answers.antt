use Rattle.wk_check.specs.Verdict.{module_verdict}
use Rattle.wk_check.proofs.Flaws.{module_verdict_told}
use Rattle.wk_check.proofs.Valid.{valid_exactly}
use Rattle.wk_check.proofs.judging.meaning_of_verdicts.Goals as goal

pub returns : goal.returns
returns c = λ m. valid_exactly m (module_verdict m) (module_verdict_told m)
