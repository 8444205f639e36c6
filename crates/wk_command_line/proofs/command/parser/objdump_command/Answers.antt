use Rattle.std.proofs.Common.{◌≡◌, ◌∙◌, ◌++◌, ap, map, rules, false}
use Rattle.std.specs.List.{AllByRecursion, fold}
use Rattle.std.proofs.lemmas.Result.{IfOk-weaker}
use Rattle.clap.specs.Walk.{rule_of}
use Rattle.clap.specs.Simple.{App, app_of, new_app, with_rule}
use Rattle.clap.specs.declared.builder.command.Command.TheViews.{out-Command}
use Rattle.wk_command_line.specs.Syntax.{flag_rule, word_rule}
use Rattle.wk_command_line.specs.CommandLine.{objdump}
use Rattle.wk_command_line.proofs.Building.{in_turn}
use Rattle.wk_command_line.proofs.command.parser.objdump_command.Goals as goal

pub returns : goal.returns
returns c =
    let args = c.in_ok-args.args.items in
    let rules_are : map rule_of args ≡ map flag_rule objdump.flags ++ map word_rule objdump.operands = rw c.in_ok-args.ensures.items (search rules) in
    let all : AllByRecursion (λ a. a.global ≡ false) args = rw c.in_ok-args.ensures.items (search rules) in
    let start : app_of c.after_help.result ≡ new_app objdump.name = search rules in
    let local : (out-Command c.after_help.result).has_globals ≡ false = search rules in
    IfOk-weaker c.args-2.result _ _ (λ r h. let built = in_turn args c.after_help.result r h local all in
    record { app = built.0 ∙ (ap (λ (a : App). fold with_rule a (map rule_of args)) start ∙ ap (fold with_rule (new_app objdump.name)) rules_are); local = built.1 }) c.args-2.ensures
