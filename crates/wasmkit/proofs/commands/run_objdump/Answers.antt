use Rattle.std.proofs.Common.{[]}
use Rattle.wasmkit.specs.Answers.{dumped}
use Rattle.wasmkit.specs.Runs.{Gives}
use Rattle.wasmkit.proofs.Steps.{ends, loaded, not_loaded}
use Rattle.wasmkit.proofs.commands.run_objdump.Goals as goal

pub returns-in_err-input : goal.returns-in_err-input
returns-in_err-input g c =
    let a = c.args.command in
    not_loaded a.file.now (λ input. Gives [] (dumped a input)) _ _ _ _ _ _ c.from_residual.ensures.1 c.in_err-input.ensures

pub returns-then-list_bodies : goal.returns-then-list_bodies
returns-then-list_bodies g c =
    let a = c.args.command in
    let listed = rw (c.deref-then-list_bodies.ensures.value, c.deref-then-list_bodies-2.ensures.value) at c.list_whole.ensures in
    loaded a.file.now c.in_ok-input.input.items (λ input. Gives [] (dumped a input)) _ _ _ _ _ c.in_ok-input.ensures (ends listed)

pub returns : goal.returns
returns g c =
    let a = c.args.command in
    let listed = rw (c.deref-else-list_bodies.ensures.value, c.deref-else-list_bodies-2.ensures.value) at c.list_without_bodies.ensures in
    loaded a.file.now c.in_ok-input.input.items (λ input. Gives [] (dumped a input)) _ _ _ _ _ c.in_ok-input.ensures (ends listed)
