use Rattle.std.proofs.Common.{◌≡◌, ◌∙◌, sym, ap, refl, Option, Some, List}
use Rattle.std.specs.Prelude.{remove}
use Rattle.std.proofs.lemmas.Result.{err_from_is_err_and}
use Rattle.wk_bytes.specs.Leb.{◌>>=◌}
use Rattle.wk_module.specs.declared.types.Export.{Export}
use Rattle.wk_module.specs.Changes.{without_first}
use Rattle.wk_module.specs.ChangeLaws.{without_export_formed}
use Rattle.wk_module.specs.Shape.{settle, IsFormed}
use Rattle.wk_session.specs.declared.edit.Edit.TheVariants as edits
use Rattle.wk_session.specs.Edits.{is_none, lasting, made, with_exports}
use Rattle.wk_session.specs.Kept.{standing}
use Rattle.wk_session.proofs.Appending.{grown_refused}
use Rattle.wk_session.proofs.Keeping.{kept_fits}
use Rattle.wk_session.proofs.Leading.{accepted}
use Rattle.wk_session.proofs.Removals.{found_within, without_found, without_missing}
use Rattle.wk_session.proofs.Shrinking.{shrunk_stands}
use Rattle.wk_session.proofs.Works.{typeless_work}
use Rattle.wk_session.proofs.edits.export.remove_export.Goals as goal
use Rattle.wk_session.proofs.edits.export.remove_export.Goals.{In-Some}

pub returns-in_default : goal.returns-in_default
returns-in_default c =
    let missing = without_missing c.args.name.now c.args.parts.now.exports (sym c.place_of.ensures ∙ c.in_default.is) in
    let makes = ap (λ (o : Option (List Export)). with_exports o c.args.parts.now >>= lasting c.args.keep) missing in
    ((λ other. makes), (λ same. absurd cc), refl, c.requires.kept)

-- the exports without the one that is found
without : (c : In-Some) → without_first c.args.name.now c.args.parts.now.exports ≡ Some (remove c.args.parts.now.exports c.in-Some.place)
without c = without_found c.args.name.now c.args.parts.now.exports c.in-Some.place (sym c.place_of.ensures ∙ c.in-Some.is)

-- the edit makes the module without the export, if that may stay
makes : (c : In-Some) → made c.args.keep (edits.Unexport c.args.name.now) c.args.parts.now
    ≡ standing c.args.keep (record c.args.parts.now { exports = remove c.args.parts.now.exports c.in-Some.place })
makes c =
    let m = c.args.parts.now in
    ap (λ (o : Option (List Export)). with_exports o m >>= lasting c.args.keep) (without c)
    ∙ shrunk_stands c.args.keep c.args.name.now (remove m.exports c.in-Some.place) m (without c) c.requires.shaped.formed.order
    (kept_fits m c.args.kept.now c.requires.kept)

formed : (c : In-Some) → IsFormed (record c.args.parts.now { exports = remove c.args.parts.now.exports c.in-Some.place })
formed c =
    without_export_formed c.args.name.now (remove c.args.parts.now.exports c.in-Some.place) c.args.parts.now (without c) c.requires.shaped.formed

pub take_export-requires-clause-place : goal.take_export-requires-clause-place
take_export-requires-clause-place c =
    found_within c.args.name.now c.args.parts.now.exports c.in-Some.place (sym c.place_of.ensures ∙ c.in-Some.is)

pub take_export-requires-clause-formed : goal.take_export-requires-clause-formed
take_export-requires-clause-formed c = formed (goal.at.take_export-requires-clause-formed c).In-Some

pub returns-in_err-sections : goal.returns-in_err-sections
returns-in_err-sections c =
    let m = c.args.parts.now in
    let new = c.take_export.new in
    let at = (goal.at.returns-in_err-sections c).In-Some in
    let result = c.from_residual.result in
    grown_refused c.args.keep (edits.Unexport c.args.name.now) m (record m { exports = remove m.exports c.in-Some.place }) new.parts c.args.kept.now
    new.kept 0 1 c.in_err-sections.field-0.0 result (err_from_is_err_and result c.from_residual.ensures.1) (makes at) c.in_err-sections.ensures.shrunk
    (ap is_none (without at)) c.in_err-sections.ensures.err c.requires.kept

pub returns : goal.returns
returns c =
    let m = c.args.parts.now in
    let at = (goal.at.returns c).In-Some in
    let n = record m { exports = remove m.exports c.in-Some.place } in
    let k = c.args.kept.now in
    let e = edits.Unexport c.args.name.now in
    let shrunk = c.in_ok-sections.ensures.shrunk in
    let works = c.work_on.ensures ∙ typeless_work e m (settle n) refl (λ f. refl) c.in_ok-sections.sections (λ r. refl) shrunk.3 in
    accepted c.args.keep e m n c.take_export.new.parts k c.take_export.new.kept c.work_on.result c.in_ok-sections.ensures.ok (makes at) shrunk.0
    works (formed at) shrunk.1
