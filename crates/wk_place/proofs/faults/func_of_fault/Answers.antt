use Rattle.std.proofs.Common.{arith}
use Rattle.wk_body.specs.ReadsLaws.{other_fault}
use Rattle.wk_place.specs.Seeking.{broken_in}
use Rattle.wk_place.proofs.FuncsOfFaults.{told, told_none, told_err}
use Rattle.wk_place.proofs.faults.func_of_fault.Goals as goal

pub returns-in-Ok-Some : goal.returns-in-Ok-Some
returns-in-Ok-Some c =
    let read = rw c.in-Ok-Some.field-0-is at c.in-Ok-Some.ensures in
    told c.args.profile c.args.bytes.now c.args.fault.now (λ i. omega (arith, c.type_inv.bytes i)) c.in-Ok-Some.item c.in-Ok-Some.met c.func_of.result read
    c.func_of.ensures

pub returns-in-Ok-None : goal.returns-in-Ok-None
returns-in-Ok-None c =
    told_none c.args.profile c.args.bytes.now c.args.fault.now (λ i. omega (arith, c.type_inv.bytes i)) c.in-Ok-None.field-0 c.in-Ok-None.ensures
    c.in-Ok-None.field-0-is

pub returns-in_default : goal.returns-in_default
returns-in_default c =
    let e = c.in-Err.fault in
    let bad = other_fault e e.kind (broken_in c.args.profile c.args.bytes.now) c.in_default.not-Memory c.in-Err.ensures in
    told_err c.args.profile c.args.bytes.now c.args.fault.now (λ i. omega (arith, c.type_inv.bytes i)) e bad
