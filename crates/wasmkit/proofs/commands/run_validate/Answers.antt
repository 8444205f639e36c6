use Rattle.std.proofs.Common.{rules, refl, subst, inl, inr}
use Rattle.wasmkit.specs.Answers.{IsPrinted}
use Rattle.wasmkit.specs.Runs.{Says}
use Rattle.wasmkit.proofs.Steps.{ends, loaded, not_loaded, nothing}
use Rattle.wasmkit.proofs.commands.run_validate.Goals as goal

pub returns-in_err-input : goal.returns-in_err-input
returns-in_err-input g c =
    let a = c.args.command in
    not_loaded a.file.now (Says a) _ _ _ _ _ _ c.from_residual.ensures.1 c.in_err-input.ensures

pub returns-in_err-text : goal.returns-in_err-text
returns-in_err-text g c =
    let a = c.args.command in
    loaded a.file.now c.in_ok-input.input.items (Says a) _ _ _ _ _ c.in_ok-input.ensures (ends (inl (refl, nothing, c.from_residual-in_err-text.ensures.1)))

pub returns : goal.returns
returns g c =
    let a = c.args.command in
    let text = c.in_ok-text.field-0.text.items in
    let told = subst (λ b. IsPrinted a.explain a.profile b text) c.deref.ensures.value c.in_ok-text.ensures.text in
    loaded a.file.now c.in_ok-input.input.items (Says a) _ _ _ _ _ c.in_ok-input.ensures (ends (inr (text, told, search rules)))
