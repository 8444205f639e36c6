use Rattle.wk_module.specs.Reading.{module_at}
use Rattle.wk_ffi.proofs.Located.{read_known}
use Rattle.wk_ffi.proofs.locating.locate_in.Goals as goal

pub returns-in_ok-numbers_of-clause-known : goal.returns-in_ok-numbers_of-clause-known
returns-in_ok-numbers_of-clause-known c =
    read_known c.judge_bytes-verdict.result (module_at c.args.profile c.args.bytes.now) c.judge_bytes-verdict.ensures.exact c.in_ok-code.ensures.known
