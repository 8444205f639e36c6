use Rattle.std.proofs.Common.{refl}
use Rattle.wasmkit.proofs.Steps.{listed_whole, stopped}
use Rattle.wasmkit.proofs.commands.list_summary.Goals as goal

pub returns-in_err-list_summary_parts : goal.returns-in_err-list_summary_parts
returns-in_err-list_summary_parts g c =
    let e = c.in_err-list_summary_parts.ensures in
    stopped c.args.parts.now c.args.summary.now c.args.summary.now c.in_err-list_summary_parts.field-0.0 _ _ refl e.err e.failures c.from_residual.ensures.1

pub returns : goal.returns
returns g c =
    let e = c.in_ok-list_summary_parts.ensures in
    listed_whole c.args.parts.now c.args.summary.now c.args.summary.now _ refl e.ok e.failures
