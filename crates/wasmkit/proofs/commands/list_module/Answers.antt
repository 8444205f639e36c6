use Rattle.wasmkit.proofs.Steps.{listed_whole, stopped}
use Rattle.wasmkit.proofs.commands.list_module.Goals as goal

pub returns-in_err-list_parts : goal.returns-in_err-list_parts
returns-in_err-list_parts g c =
    let e = c.in_err-list_parts.ensures in
    stopped c.args.parts.now c.in-Ok.layout c.args.whole.now c.in_err-list_parts.field-0.0 _ _ c.in-Ok.ensures.0 e.err e.failures c.from_residual.ensures.1

pub returns : goal.returns
returns g c =
    let e = c.in_ok-list_parts.ensures in
    listed_whole c.args.parts.now c.in-Ok.layout c.args.whole.now _ c.in-Ok.ensures.0 e.ok e.failures
