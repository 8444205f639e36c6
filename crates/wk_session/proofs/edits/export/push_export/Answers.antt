use Rattle.std.proofs.Common.{List, length, refl, sym, ap, subst, ◌∙◌, arith}
use Rattle.std.proofs.lemmas.Result.{err_from_is_err_and}
use Rattle.wk_body.specs.Lengths.{limited}
use Rattle.wk_module.specs.declared.types.Export.{Export}
use Rattle.wk_module.specs.Changes.{with_export}
use Rattle.wk_module.specs.ChangeLaws.{export_formed}
use Rattle.wk_module.specs.Sections.{ExportSection}
use Rattle.wk_module.specs.Shape.{IsFormed}
use Rattle.wk_module.specs.Writing.{encoded}
use Rattle.wk_check.specs.SpacesLaws.{answers_of}
use Rattle.wk_session.specs.Judged.{IsJudged}
use Rattle.wk_session.proofs.Appending.{item_grown, item_refused}
use Rattle.wk_session.proofs.LongerLists.{export_longer}
use Rattle.wk_session.proofs.Keeping.{room_kept}
use Rattle.wk_session.proofs.edits.export.push_export.Goals as goal

pub new_export-requires : goal.new_export-requires
new_export-requires c = room_kept c.args.parts.now c.args.kept.now ExportSection c.requires.kept

pub returns-in_err-item-clause-grown : goal.returns-in_err-item-clause-grown
returns-in_err-item-clause-grown c =
    let m = c.args.parts.now in
    let k = c.args.kept.now in
    let r = c.from_residual.result in
    let longer = export_longer c.args.export m k.pieces.sections.items c.requires.kept.pieces.sections in
    item_refused c.args.keep m (with_export c.args.export m) k 0 longer c.in_err-item.field-0.0 r c.requires.shaped.formed.order
    c.in_err-item.ensures (err_from_is_err_and r c.from_residual.ensures.1)

pub judge_exports-judged-requires-clause-formed : goal.judge_exports-judged-requires-clause-formed
judge_exports-judged-requires-clause-formed c =
    let m = c.args.parts.now in
    let few = room_kept m c.args.kept.now ExportSection c.requires.kept in
    let formed = export_formed c.args.export m few c.requires.valid c.requires.shaped.formed in
    subst (λ (es : List Export). IsFormed (record m { exports = es })) (sym (c.as_slice-exports.ensures ∙ c.in_ok-push.ensures.ok)) formed

pub judge_exports-judged-requires-clause-len : goal.judge_exports-judged-requires-clause-len
judge_exports-judged-requires-clause-len c =
    let m = c.args.parts.now in
    c.requires.len ∙ ap (λ (es : List Export). limited (length (encoded (record m { exports = es }))))
    (sym (c.as_slice-exports.ensures ∙ c.in_ok-push.ensures.ok))

pub keep_grown-grown-requires-clause-id : goal.keep_grown-grown-requires-clause-id
keep_grown-grown-requires-clause-id c = omega (arith, c.in_ok-item.ensures.id_is, ap length c.requires.kept.pieces.sections)

pub returns-clause-grown : goal.returns-clause-grown
returns-clause-grown c =
    let m = c.args.parts.now in
    let k = c.args.kept.now in
    let n = with_export c.args.export m in
    let result = c.judge_exports-judged.result in
    let judged = subst (λ (es : List Export). IsJudged c.args.keep (answers_of m) (record m { exports = es }) k 0 result)
    (c.as_slice-exports.ensures ∙ c.in_ok-push.ensures.ok) c.judge_exports-judged.ensures in
    let longer = export_longer c.args.export m k.pieces.sections.items c.requires.kept.pieces.sections in
    item_grown c.args.keep m n k 0 longer _ c.in_ok-item.item _ _ c.in_ok-item.ensures refl refl c.requires.kept judged
    (c.keep_grown-grown.ensures c.args.keep (answers_of m) n 0)
