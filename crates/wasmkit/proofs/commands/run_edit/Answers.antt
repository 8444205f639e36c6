use Rattle.std.proofs.Common.{ℕ, List, rules, refl, inl, inr}
use Rattle.wk_edit.specs.Outcome.{outcome_of}
use Rattle.wasmkit.specs.Answers.{AreOf}
use Rattle.wk_command_line.specs.declared.command.EditCommand.{EditCommand}
use Rattle.wasmkit.specs.Runs.{Loads, Rest, Scripted}
use Rattle.wasmkit.proofs.Steps.{ends, given_edited, loaded, not_loaded, nothing, script_refused, scripted}
use Rattle.wasmkit.proofs.commands.run_edit.Goals as goal

-- what is done with the bytes of both files
abbrev with_both : EditCommand → List ℕ → List ℕ → Rest
with_both a input script = Scripted a input script

-- .. and with those of FILE alone
abbrev with_file : EditCommand → List ℕ → Rest
with_file a input = Loads a.script.now (with_both a input)

pub returns-in_err-input : goal.returns-in_err-input
returns-in_err-input g c =
    let a = c.args.command in
    not_loaded a.file.now (with_file a) _ _ _ _ _ _ c.from_residual.ensures.1 c.in_err-input.ensures

pub returns-in_err-script : goal.returns-in_err-script
returns-in_err-script g c =
    let a = c.args.command in
    let input = c.in_ok-input.input.items in
    loaded a.file.now input (with_file a) _ _ _ _ _ c.in_ok-input.ensures
    (not_loaded a.script.now (with_both a input) _ _ _ _ _ _ c.from_residual-in_err-script.ensures.1 c.in_err-script.ensures)

pub returns-in_err-edited : goal.returns-in_err-edited
returns-in_err-edited g c =
    let a = c.args.command in
    let input = c.in_ok-input.input.items in
    let script = c.in_ok-script.script.items in
    loaded a.file.now input (with_file a) _ _ _ _ _ c.in_ok-input.ensures
    (loaded a.script.now script (with_both a input) _ _ _ _ _ c.in_ok-script.ensures
    (scripted a input script _ _ _ _ (search rules) (ends (inr (inl (refl, nothing, c.from_residual-in_err-edited.ensures.1))))))

pub returns-then-len-gt-LIMIT : goal.returns-then-len-gt-LIMIT
returns-then-len-gt-LIMIT g c =
    let a = c.args.command in
    let input = c.in_ok-input.input.items in
    let script = c.in_ok-script.script.items in
    loaded a.file.now input (with_file a) _ _ _ _ _ c.in_ok-input.ensures
    (loaded a.script.now script (with_both a input) _ _ _ _ _ c.in_ok-script.ensures (script_refused a input script _ _ _ (search rules)))

pub returns : goal.returns
returns g c =
    let a = c.args.command in
    let input = c.in_ok-input.input.items in
    let script = c.in_ok-script.script.items in
    let e = c.in_ok-edited.edited in
    let of : AreOf (outcome_of a.keep_valid a.profile input script) e.status e.«module».items e.report.items = search rules in
    loaded a.file.now input (with_file a) _ _ _ _ _ c.in_ok-input.ensures
    (loaded a.script.now script (with_both a input) _ _ _ _ _ c.in_ok-script.ensures
    (scripted a input script _ _ _ _ (search rules)
    (given_edited a.out.now (outcome_of a.keep_valid a.profile input script) _ e.status _ e.«module».items e.report.items _ _ _ _ _ of c.saved.ensures
    c.code.ensures c.deref-2.ensures.value c.give.ensures)))
