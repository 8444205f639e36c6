use Rattle.std.proofs.Common.{map, string_bytes}
use Rattle.clap.specs.Words.{app_of}
use Rattle.wk_command_line.proofs.Reading.{parse_fails, parsed_refuses, parsed_spells, words_utf8}
use Rattle.wk_command_line.proofs.command.read_words.Goals as goal

pub returns-in_err-matches-clause-err : goal.returns-in_err-matches-clause-err
returns-in_err-matches-clause-err c =
    parse_fails (map string_bytes c.args.words.now) (app_of c.in_ok-command.field-0) c.in_err-matches.field-0.0 c.from_residual-in_err-matches.result
    c.in_ok-command.ensures c.in_err-matches.ensures.kinds c.from_residual-in_err-matches.ensures.1

pub returns-clause-ok : goal.returns-clause-ok
returns-clause-ok c =
    parsed_spells (map string_bytes c.args.words.now) (app_of c.in_ok-command.field-0) c.in_ok-matches.matches c.in_ok-command.ensures c.in_ok-matches.ensures.matches
    (words_utf8 c.args.words.now) c.in_ok-matches.ensures.kinds c.asked_of-asked.result c.asked_of-asked.ensures.ok

pub returns-clause-err : goal.returns-clause-err
returns-clause-err c =
    parsed_refuses (map string_bytes c.args.words.now) (app_of c.in_ok-command.field-0) c.in_ok-matches.matches c.in_ok-command.ensures c.in_ok-matches.ensures.matches
    c.asked_of-asked.result c.asked_of-asked.ensures.err
