use Rattle.std.proofs.Common.{option_map, subst, sym}
use Rattle.clap.specs.Words.{found_of, rows_of}
use Rattle.wk_command_line.specs.CommandLine.{KeepsName}
use Rattle.wk_command_line.specs.Syntax.{ReadsStrip}
use Rattle.wk_command_line.proofs.Reading.{unreadable_up}
use Rattle.wk_command_line.proofs.command.read_strip.Goals as goal

pub returns-in_err-read_keep-clause-err : goal.returns-in_err-read_keep-clause-err
returns-in_err-read_keep-clause-err c =
    unreadable_up c.from_residual.result c.in_err-read_keep.field-0.0 (KeepsName (option_map (λ s. s.now) c.text_of-3.result))
    (ReadsStrip (rows_of (found_of c.args.found.now))) c.from_residual.ensures.1
    (λ none d reads. none d.keep (subst (λ v. KeepsName v d.keep) (sym c.text_of-3.ensures) reads.keep)) c.in_err-read_keep.ensures.err
