use Rattle.std.proofs.Common.{◌≡◌, [], Ok, rules}
use Rattle.wk_module.specs.Reading.{module_at}
use Rattle.wasmkit.specs.Answers.{listed}
use Rattle.wasmkit.proofs.Steps.{gives_refused}
use Rattle.wasmkit.proofs.commands.list_whole.Goals as goal

pub returns-in-Ok : goal.returns-in-Ok
returns-in-Ok g c =
    let read : module_at c.args.profile c.args.input.now ≡ Ok c.in-Ok.«module» = search rules in
    rw read c.list_module.ensures

pub returns-in-Err : goal.returns-in-Err
returns-in-Err g c =
    gives_refused [] (listed c.args.parts.now) (module_at c.args.profile c.args.input.now) c.in-Err.fault _ _ (search rules) c.refuse_module.ensures
