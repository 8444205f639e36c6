use Rattle.std.proofs.Common.{rules, ap, ◌∙◌, ◌≡◌, []}
use Rattle.std.proofs.lemmas.Result.{IfOk-weaker}
use Rattle.clap.specs.Simple.{App, app_of}
use Rattle.wk_command_line.specs.Syntax.{wasmkit_top, with_form}
use Rattle.wk_command_line.specs.CommandLine.{edit, objdump, sections, strip, validate}
use Rattle.wk_command_line.proofs.command.parser.command.Goals as goal

pub returns : goal.returns
returns c =
    let start : app_of c.subcommand_required-command.result ≡ record { top = wasmkit_top; subs = [] } = search rules in
    let one = c.in_ok-command.ensures edit c.edit_command.ensures in
    let two = c.in_ok-command-2.ensures objdump c.objdump_command.ensures in
    let three = c.in_ok-command-3.ensures sections c.sections_command.ensures in
    let four = c.in_ok-command-4.ensures strip c.strip_command.ensures in
    let all = four ∙ ap (λ (a : App). with_form a strip) (three ∙ ap (λ (a : App). with_form a sections) (two
    ∙ ap (λ (a : App). with_form a objdump) (one ∙ ap (λ (a : App). with_form a edit) start))) in
    IfOk-weaker c.with_subcommand-5.result _ _ (λ r h. h ∙ ap (λ (a : App). with_form a validate) all)
    (c.with_subcommand-5.ensures validate c.validate_command.ensures)
