use Rattle.std.proofs.Common.{◌≡◌, ℕ, Option, Some, List, Ok, rules, ap, ◌∙◌, refl}
use Rattle.wk_module.specs.Reading.{module_at}
use Rattle.wk_module.specs.Shape.{settle}
use Rattle.wk_module.specs.Writing.{encoded}
use Rattle.wk_strip.specs.Stripped.{with_kept}
use Rattle.wasmkit.specs.Answers.{bare, stripped}
use Rattle.wasmkit.specs.Runs.{Gives}
use Rattle.wasmkit.proofs.Steps.{ends, given, gives_refused, loaded, not_loaded}
use Rattle.wasmkit.proofs.commands.run_strip.Goals as goal

pub returns-in_err-input : goal.returns-in_err-input
returns-in_err-input g c =
    let a = c.args.command in
    not_loaded a.file.now (λ input. Gives a.out.now (stripped a input)) _ _ _ _ _ _ c.from_residual.ensures.1 c.in_err-input.ensures

pub returns-in-Ok : goal.returns-in-Ok
returns-in-Ok g c =
    let a = c.args.command in
    let input = c.in_ok-input.input.items in
    let e = c.in-Ok.ensures.exact in
    let read : module_at a.profile input ≡ Ok e.0 = search rules in
    let saved_is = c.as_slice.ensures ∙ e.2 ∙ ap (λ (k : Option (List ℕ)). encoded (settle (with_kept k e.0))) c.as_ref.ensures.value in
    loaded a.file.now input (λ input. Gives a.out.now (stripped a input)) _ _ _ _ _ c.in_ok-input.ensures
    (rw read
    (given a.out.now (bare a.keep e.0) _ _ _ _ _ _ _ (ap (λ (b : List ℕ). Some b) saved_is) refl refl c.give.ensures))

pub returns : goal.returns
returns g c =
    let a = c.args.command in
    let input = c.in_ok-input.input.items in
    loaded a.file.now input (λ input. Gives a.out.now (stripped a input)) _ _ _ _ _ c.in_ok-input.ensures
    (ends (gives_refused a.out.now (bare a.keep) (module_at a.profile input) c.in-Err.fault _ _ (search rules) c.refuse_module.ensures))
