use Rattle.std.proofs.Common.{arith}
use Rattle.wk_bytes.specs.LebLaws.{IsBytes}
use Rattle.wk_body.specs.ReadsLaws.{other_fault}
use Rattle.wk_place.specs.Seeking.{func_at, place_at}
use Rattle.wk_place.proofs.FoundFuncs.{told_place, told_func}
use Rattle.wk_place.proofs.FoundPlaces.{place_not_read}
use Rattle.wk_place.proofs.PlacesOfVerdicts.{verdict_located, verdict_unread}
use Rattle.wk_place.proofs.place.locate.Goals as goal

pub returns-in-Ok-clause-place : goal.returns-in-Ok-clause-place
returns-in-Ok-clause-place c =
    told_place c.args.profile c.args.bytes.now c.args.fault.now.place c.in-Ok.found (func_at c.args.bytes.now c.args.fault.now.place)
    c.locate_found.result (λ i. omega (arith, c.type_inv.bytes i)) c.in-Ok.ensures c.locate_found.ensures

pub returns-in-Ok-clause-func : goal.returns-in-Ok-clause-func
returns-in-Ok-clause-func c = λ m is s.
    told_func c.args.profile c.args.bytes.now c.args.fault.now.place m c.in-Ok.found c.locate_found.result (λ i. omega (arith, c.type_inv.bytes i))
    c.in-Ok.ensures c.locate_found.ensures s

pub returns-in_default-clause-place : goal.returns-in_default-clause-place
returns-in_default-clause-place c =
    let e = c.in-Err.fault in
    let bad = other_fault e e.kind (place_at c.args.profile c.args.bytes.now c.args.fault.now.place) c.in_default.not-Memory c.in-Err.ensures in
    place_not_read c.args.profile c.args.bytes.now c.args.fault.now.place e (λ i. omega (arith, c.type_inv.bytes i)) bad

pub returns-in-Ok-clause-found : goal.returns-in-Ok-clause-found
returns-in-Ok-clause-found c = λ m same spelled wrong.
    let fits : IsBytes c.args.bytes.now = λ i. omega (arith, c.type_inv.bytes i) in
    let there = told_place c.args.profile c.args.bytes.now c.args.fault.now.place c.in-Ok.found (func_at c.args.bytes.now c.args.fault.now.place)
    c.locate_found.result fits c.in-Ok.ensures c.locate_found.ensures in
    verdict_located c.args.profile c.args.bytes.now m c.args.fault.now c.locate_found.result fits same spelled wrong there

pub returns-in_default-clause-found : goal.returns-in_default-clause-found
returns-in_default-clause-found c = λ m same spelled wrong.
    let fits : IsBytes c.args.bytes.now = λ i. omega (arith, c.type_inv.bytes i) in
    let e = c.in-Err.fault in
    let bad = other_fault e e.kind (place_at c.args.profile c.args.bytes.now c.args.fault.now.place) c.in_default.not-Memory c.in-Err.ensures in
    absurd (verdict_unread c.args.profile c.args.bytes.now m c.args.fault.now fits same spelled wrong
    (place_not_read c.args.profile c.args.bytes.now c.args.fault.now.place e fits bad))
