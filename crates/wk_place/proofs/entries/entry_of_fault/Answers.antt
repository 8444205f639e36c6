use Rattle.std.proofs.Common.{arith}
use Rattle.wk_body.specs.ReadsLaws.{other_fault}
use Rattle.wk_place.specs.Seeking.{entry_at}
use Rattle.wk_place.proofs.FoundEntries.{told_entry, unread_entry}
use Rattle.wk_place.proofs.entries.entry_of_fault.Goals as goal

pub returns-in-Ok : goal.returns-in-Ok
returns-in-Ok c = λ m same spelled.
    told_entry c.args.profile c.args.bytes.now m c.args.fault.now c.in-Ok.entry (λ i. omega (arith, c.type_inv.bytes i)) same spelled
    (c.is_of_funcs.ensures.0 c.if-not-is_of_funcs.false) c.in-Ok.ensures

pub returns-in_default : goal.returns-in_default
returns-in_default c = λ m same spelled.
    let e = c.in-Err.fault in
    let bad = other_fault e e.kind (entry_at c.args.profile c.args.bytes.now c.args.fault.now.place) c.in_default.not-Memory c.in-Err.ensures in
    unread_entry c.args.profile c.args.bytes.now m c.args.fault.now e (λ i. omega (arith, c.type_inv.bytes i)) same spelled bad
