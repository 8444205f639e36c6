use Rattle.std.proofs.Common.{◌≡◌, Ok, Err, arith}
use Rattle.std.proofs.lemmas.Result.{err_from_is_err_and}
use Rattle.wk_module.specs.Reading.{module_at}
use Rattle.wk_module.specs.Shape.{IsShaped}
use Rattle.wk_module.proofs.FirstFaults.{answer_first}
use Rattle.wk_module.proofs.ModuleReading.{read_settled, module_found, answer_found, answer_profile, answer_only, answer_refused}
use Rattle.wk_module.proofs.Shaped.{shaped}
use Rattle.wk_module.proofs.Standing.{module_stands, told_stands}
use Rattle.wk_module.proofs.Fitting.{fits_spelled}
use Rattle.wk_module.proofs.module_read.read_in.Goals as goal

-- ---- a refusal

pub returns-in_err-read_parts-clause-refused : goal.returns-in_err-read_parts-clause-refused
returns-in_err-read_parts-clause-refused c =
    let p = err_from_is_err_and c.from_residual.result c.from_residual.ensures.1 in
    rw (p.1, p.2) (answer_refused c.args.profile (c.laws_of_sections.ensures c.args.profile) c.args.bytes.now (Err c.in_err-read_parts.field-0.0)
    c.in_err-read_parts.ensures)

pub returns-in_err-read_parts-clause-fault : goal.returns-in_err-read_parts-clause-fault
returns-in_err-read_parts-clause-fault c =
    let p = err_from_is_err_and c.from_residual.result c.from_residual.ensures.1 in
    rw (p.1, p.2) (told_stands c.args.bytes.now c.in_err-read_parts.field-0.0 (module_at c.args.profile c.args.bytes.now)
    (module_stands c.args.profile (c.laws_of_sections.ensures c.args.profile) c.args.bytes.now) c.in_err-read_parts.ensures)

pub returns-in_err-read_parts-clause-first : goal.returns-in_err-read_parts-clause-first
returns-in_err-read_parts-clause-first c =
    let p = err_from_is_err_and c.from_residual.result c.from_residual.ensures.1 in
    rw (p.1, p.2) (answer_first c.args.profile (c.laws_of_sections.ensures c.args.profile) c.args.bytes.now c.in_err-read_parts.field-0.0
    (λ i. omega (arith, c.type_inv.bytes i)) c.in_err-read_parts.ensures)

-- ---- an answer

shaped_of : (c : goal.In_ok-read_parts) → IsShaped c.in_ok-read_parts.field-0
shaped_of c =
    let laws = c.laws_of_sections.ensures c.args.profile in
    let found = module_found c.args.profile laws c.args.bytes.now c.in_ok-read_parts.field-0
    (λ i. omega (arith, c.type_inv.bytes i)) c.in_ok-read_parts.ensures in
    shaped c.args.profile laws c.args.bytes.now c.in_ok-read_parts.field-0 found.1 (λ i. omega (arith, c.type_inv.bytes i)) found.0

pub of-requires : goal.of-requires
of-requires c = (shaped_of c).formed

-- the answer is what reading gives
exact_of : (c : goal.After-of) → module_at c.args.profile c.args.bytes.now ≡ Ok c.of.result
exact_of c =
    let found = module_found c.args.profile (c.laws_of_sections.ensures c.args.profile) c.args.bytes.now c.in_ok-read_parts.field-0
    (λ i. omega (arith, c.type_inv.bytes i)) c.in_ok-read_parts.ensures in
    let is = shaped c.args.profile (c.laws_of_sections.ensures c.args.profile) c.args.bytes.now c.in_ok-read_parts.field-0 found.1
    (λ i. omega (arith, c.type_inv.bytes i)) found.0 in
    read_settled c.args.profile c.args.bytes.now c.in_ok-read_parts.field-0 c.of.result c.in_ok-read_parts.ensures is.settled c.of.ensures

pub returns-clause-exact : goal.returns-clause-exact
returns-clause-exact c = exact_of c

pub returns-clause-found : goal.returns-clause-found
returns-clause-found c =
    answer_found c.args.profile (c.laws_of_sections.ensures c.args.profile) c.args.bytes.now (Ok c.of.result)
    (λ i. omega (arith, c.type_inv.bytes i)) (exact_of c)

pub returns-clause-profile : goal.returns-clause-profile
returns-clause-profile c =
    answer_profile c.args.profile (c.laws_of_sections.ensures c.args.profile) c.args.bytes.now (Ok c.of.result)
    (λ i. omega (arith, c.type_inv.bytes i)) (exact_of c)

pub returns-clause-only : goal.returns-clause-only
returns-clause-only c = answer_only c.args.profile (c.laws_of_sections.ensures c.args.profile) c.args.bytes.now (Ok c.of.result) (exact_of c)

pub returns-clause-fits : goal.returns-clause-fits
returns-clause-fits c =
    let found = module_found c.args.profile (c.laws_of_sections.ensures c.args.profile) c.args.bytes.now c.of.result
    (λ i. omega (arith, c.type_inv.bytes i)) (exact_of c) in
    fits_spelled c.args.profile (c.laws_of_sections.ensures c.args.profile) c.args.bytes.now c.of.result found.1 found.0
