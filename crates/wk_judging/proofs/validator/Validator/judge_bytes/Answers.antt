use Rattle.std.proofs.Common.{rules}
use Rattle.wk_module.specs.Reading.{module_at}
use Rattle.wk_judging.proofs.ValidRead.{read_exactly}
use Rattle.wk_judging.proofs.validator.Validator.judge_bytes.Goals as goal

pub returns-clause-valid : goal.returns-clause-valid
returns-clause-valid c = read_exactly (module_at c.args.profile c.args.bytes.now) c.judge_sections.result (search rules)
