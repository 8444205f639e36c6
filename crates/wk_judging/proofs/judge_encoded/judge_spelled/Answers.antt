use Rattle.std.proofs.Common.{Ok}
use Rattle.wk_module.specs.Reading.{module_at}
use Rattle.wk_judging.proofs.JudgedCodes.{judged_as, told_meaning}
use Rattle.wk_judging.proofs.ValidRead.{read_exactly}
use Rattle.wk_judging.proofs.judge_encoded.judge_spelled.Goals as goal

pub returns-in-Ok-clause-exact : goal.returns-in-Ok-clause-exact
returns-in-Ok-clause-exact c = λ m at. judged_as (module_at c.args.profile c.args.bytes.now) m c.in-Ok.verdict c.in-Ok.ensures at

pub returns-in-Ok-clause-meaning : goal.returns-in-Ok-clause-meaning
returns-in-Ok-clause-meaning c = told_meaning (module_at c.args.profile c.args.bytes.now) (Ok c.in-Ok.verdict) c.in-Ok.ensures

pub returns-in-Ok-clause-valid : goal.returns-in-Ok-clause-valid
returns-in-Ok-clause-valid c = read_exactly (module_at c.args.profile c.args.bytes.now) (Ok c.in-Ok.verdict) c.in-Ok.ensures

pub returns-in-Ok-clause-is : goal.returns-in-Ok-clause-is
returns-in-Ok-clause-is c = c.reading_of_module.ensures.is
