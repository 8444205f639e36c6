use Rattle.std.proofs.Common.{refl}
use Rattle.std.proofs.lemmas.Result.{err_from_is_err_and}
use Rattle.std.specs.Prelude.{option_map}
use Rattle.wk_strip.proofs.Told.{IsMade, told_refused, told_fault, told_exact, told_meaning, kept_fit}
use Rattle.wk_strip.proofs.strip.strip_bytes.Goals as goal

pub returns-in_err-kept-clause-refused : goal.returns-in_err-kept-clause-refused
returns-in_err-kept-clause-refused c =
    let p = err_from_is_err_and c.from_residual.result c.from_residual.ensures.1 in
    rw (p.1, p.2) (λ other. absurd (other refl))

pub strip_with-requires : goal.strip_with-requires
strip_with-requires c =
    let keep = option_map (λ name. name.now) c.args.keep in
    let reading = rw c.deref-input.ensures.value at c.reading_of_module.ensures in
    let found = rw c.deref-input.ensures.value at c.in_ok-kept.ensures in
    rw c.deref.ensures.value (kept_fit c.args.profile c.args.bytes.items reading.is keep c.in_ok-kept.kept.items reading.fits found)

pub returns : goal.returns
returns c =
    let profile = c.args.profile in
    let bytes = c.args.bytes.items in
    let keep = option_map (λ name. name.now) c.args.keep in
    let kept = c.in_ok-kept.kept.items in
    let reading = rw c.deref-input.ensures.value at c.reading_of_module.ensures in
    let found = rw c.deref-input.ensures.value at c.in_ok-kept.ensures in
    let r = c.strip_with.result in
    let told = rw c.deref.ensures.value at c.strip_with.ensures in
    let Made = IsMade profile bytes reading.is keep kept reading.fits found in
    record {
      exact = told_exact profile bytes reading.is keep kept reading.fits found r told;
      meaning = told_meaning profile bytes reading.is keep kept reading.fits found c.written_form_of_module.ensures.spells c.one_module.ensures.one r told;
      refused = told_refused profile bytes reading.is Made r told;
      fault = told_fault profile bytes reading.is Made r told;
    }
