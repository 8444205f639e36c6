use Rattle.std.proofs.Common.{rules}
use Rattle.clap.specs.Words.{found_of, rows_of, subcommand_rows_of}
use Rattle.wk_command_line.proofs.Reading.{judging_up}
use Rattle.wk_command_line.proofs.command.asked_of.Goals as goal

pub returns-in-Some-validate-default-clause-err : goal.returns-in-Some-validate-default-clause-err
returns-in-Some-validate-default-clause-err c =
    judging_up c.read_validate.result (rows_of (found_of c.in-Some-validate-default.found.now)) (subcommand_rows_of c.args.matches.now) (search rules) c.read_validate.ensures.err
