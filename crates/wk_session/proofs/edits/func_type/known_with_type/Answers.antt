use Rattle.std.proofs.Common.{◌≡◌, refl, sym, ◌∙◌, arith}
use Rattle.wk_module.specs.Changes.{with_type}
use Rattle.wk_module.specs.Sections.{TypeSection}
use Rattle.wk_check.specs.SpacesLaws.{type_grows}
use Rattle.wk_typing.specs.declared.fault.Verdict.{Verdict}
use Rattle.wk_check.specs.Verdict.{module_verdict}
use Rattle.wk_session.proofs.Growing.{grown_known}
use Rattle.wk_session.proofs.Keeping.{room_kept}
use Rattle.wk_session.proofs.edits.func_type.known_with_type.Goals as goal

pub overflow_cast-len : goal.overflow_cast-len
overflow_cast-len c =
    omega (arith, c.len.ensures, room_kept c.args.parts.now c.args.kept.now TypeSection c.requires.kept)

pub returns-in-Valid-clause-some : goal.returns-in-Valid-clause-some
returns-in-Valid-clause-some c =
    let m = c.args.parts.now in
    let t = c.args.ty.now in
    let valid : module_verdict m ≡ Verdict.Valid = sym c.requires.kept.verdict ∙ c.in-Valid.is in
    let verdict = c.verdict_with_type.ensures m refl (sym c.len.ensures) valid in
    grown_known c.laws_of_valid_modules.ensures.stay c.laws_of_valid_modules.ensures.found m (with_type t m) c.verdict_with_type.result valid
    (type_grows m t) refl verdict
