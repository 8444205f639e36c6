use Rattle.std.proofs.Common.{[], rules, refl, inl, inr}
use Rattle.wasmkit.specs.Answers.{framed}
use Rattle.wasmkit.specs.Runs.{Gives}
use Rattle.wasmkit.proofs.Steps.{ends, loaded, not_loaded, nothing}
use Rattle.wasmkit.proofs.commands.run_sections.Goals as goal

pub returns-in_err-input : goal.returns-in_err-input
returns-in_err-input g c =
    not_loaded c.args.file.now (λ input. Gives [] (framed input)) _ _ _ _ _ _ c.from_residual.ensures.1 c.in_err-input.ensures

pub returns-in_err-text : goal.returns-in_err-text
returns-in_err-text g c =
    loaded c.args.file.now c.in_ok-input.input.items (λ input. Gives [] (framed input)) _ _ _ _ _ c.in_ok-input.ensures
    (ends (inr (inl (refl, nothing, c.from_residual-in_err-text.ensures.1))))

pub returns : goal.returns
returns g c =
    loaded c.args.file.now c.in_ok-input.input.items (λ input. Gives [] (framed input)) _ _ _ _ _ c.in_ok-input.ensures (ends (inl (search rules)))
