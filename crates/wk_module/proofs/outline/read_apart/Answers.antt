use Rattle.std.proofs.Common.{refl, ◌∙◌, arith}
use Rattle.std.proofs.lemmas.Result.{err_from_is_err_and}
use Rattle.wk_module.specs.OutlineReading.{partial}
use Rattle.wk_module.specs.Reading.{at_start}
use Rattle.wk_module.proofs.Outlining.{sections_fail, are_read, joined_fails, joined_outlined, outline_is, outline_formed, outline_settled}
use Rattle.wk_module.proofs.Standing.{fault_refused, fault_stands, fault_first}
use Rattle.wk_module.proofs.VectorReading.{read_few}
use Rattle.wk_module.proofs.outline.read_apart.Goals as goal

-- ---- a fault of the sections

pub returns-in_err-so_far : goal.returns-in_err-so_far
returns-in_err-so_far g c =
    let p = err_from_is_err_and c.from_residual.result c.from_residual.ensures.1 in
    let e = c.in_err-so_far.field-0.0 in
    let fails = sections_fail g.K.Keep.kept c.args.profile c.args.bytes.now e c.in_err-so_far.ensures in
    rw (p.1, p.2) (record {
      exact = fails;
      refused = fault_refused c.args.profile c.args.bytes.now c.reading_of_module.ensures.is e fails;
      fault = fault_stands c.args.profile c.args.bytes.now c.reading_of_module.ensures.is e fails;
      first = fault_first c.args.profile c.args.bytes.now c.reading_of_module.ensures.is e fails;
    })

-- ---- all sections are read

pub overflow_cast-bytes : goal.overflow_cast-bytes
overflow_cast-bytes g c =
    let r = are_read g.K.Keep.kept c.args.profile c.args.bytes.now (partial c.in_ok-so_far.so_far c.in_ok-so_far.kept.items) _ refl c.in_ok-so_far.ensures in
    omega (arith, read_few c.args.profile at_start r.so_far c.args.bytes.now r.read)

pub returns-in_err-parts : goal.returns-in_err-parts
returns-in_err-parts g c =
    let p = err_from_is_err_and c.from_residual-in_err-parts.result c.from_residual-in_err-parts.ensures.1 in
    let e = c.in_err-parts.field-0.0 in
    let r = are_read g.K.Keep.kept c.args.profile c.args.bytes.now (partial c.in_ok-so_far.so_far c.in_ok-so_far.kept.items) _ refl c.in_ok-so_far.ensures in
    let fails = joined_fails g.K.Keep.kept c.args.profile c.args.bytes.now _ r c.len.result (c.len.ensures ∙ c.in_ok-so_far.kept.ok.0) e
    c.in_err-parts.ensures in
    rw (p.1, p.2) (record {
      exact = fails;
      refused = fault_refused c.args.profile c.args.bytes.now c.reading_of_module.ensures.is e fails;
      fault = fault_stands c.args.profile c.args.bytes.now c.reading_of_module.ensures.is e fails;
      first = fault_first c.args.profile c.args.bytes.now c.reading_of_module.ensures.is e fails;
    })

pub of-requires : goal.of-requires
of-requires g c =
    let r = are_read g.K.Keep.kept c.args.profile c.args.bytes.now (partial c.in_ok-so_far.so_far c.in_ok-so_far.kept.items) _ refl c.in_ok-so_far.ensures in
    let read = joined_outlined g.K.Keep.kept c.args.profile c.args.bytes.now _ r c.len.result
    (c.len.ensures ∙ c.in_ok-so_far.kept.ok.0) c.in_ok-parts.parts c.in_ok-parts.ensures in
    outline_formed c.args.profile c.args.bytes.now c.reading_of_module.ensures.is c.in_ok-parts.parts read

pub returns-clause-exact : goal.returns-clause-exact
returns-clause-exact g c =
    let r = are_read g.K.Keep.kept c.args.profile c.args.bytes.now (partial c.in_ok-so_far.so_far c.in_ok-so_far.kept.items) _ refl c.in_ok-so_far.ensures in
    let many = c.len.ensures ∙ c.in_ok-so_far.kept.ok.0 in
    let read = joined_outlined g.K.Keep.kept c.args.profile c.args.bytes.now _ r c.len.result many c.in_ok-parts.parts c.in_ok-parts.ensures in
    let settled = outline_settled c.args.profile c.args.bytes.now c.reading_of_module.ensures.is c.in_ok-parts.parts read in
    outline_is g.K.Keep.kept c.args.profile c.args.bytes.now _ r c.len.result many c.in_ok-parts.parts c.of.result c.in_ok-parts.ensures
    (c.of.ensures ∙ settled)
