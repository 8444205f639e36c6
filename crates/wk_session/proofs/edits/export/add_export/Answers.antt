use Rattle.std.proofs.Common.{rules, ℕ, [], ◌∷◌, ◌∙◌, sym, subst, refl, arith}
use Rattle.std.proofs.lemmas.Result.{err_from_is_err_and}
use Rattle.wk_module.specs.Changes.{with_export}
use Rattle.wk_module.specs.ChangeLaws.{export_formed}
use Rattle.wk_module.specs.Items.{IsExport, written_export}
use Rattle.wk_module.specs.Sections.{ExportSection}
use Rattle.wk_module.specs.Shape.{settle}
use Rattle.wk_module.specs.Writing.{list_contents}
use Rattle.wk_pieces.specs.Longer.{IsLonger}
use Rattle.wk_session.specs.declared.edit.Edit.TheVariants as edits
use Rattle.wk_session.proofs.Appending.{IsAddition, copy_long, pushed, too_long, uncopied, unpushed}
use Rattle.wk_session.proofs.Keeping.{room_kept}
use Rattle.wk_session.proofs.LongerLists.{alone_len, export_longer}
use Rattle.wk_session.proofs.Works.{codeless_work}
use Rattle.wk_session.proofs.edits.export.add_export.Goals as goal
use Rattle.wk_session.proofs.edits.export.add_export.Goals.{After-len_beside-len}

pub len_beside-len-requires-clause-count : goal.len_beside-len-requires-clause-count
len_beside-len-requires-clause-count c = omega (arith, c.len-count.ensures, room_kept c.args.parts.now c.args.kept.now ExportSection c.requires.kept)

-- how long the module gets
added : (c : After-len_beside-len) → IsAddition (λ x. edits.Export x) with_export c.args.keep c.args.export.now c.args.parts.now c.args.kept.now
    c.len_beside-len.result
added c =
    let x = c.args.export.now in
    let m = c.args.parts.now in
    let ps = c.args.kept.now.pieces.sections.items in
    let alone = list_contents written_export (x ∷ []) in
    let longer = subst (λ (n : ℕ). IsLonger 7 n alone ps (with_export x m)) (sym c.len-count.ensures) (export_longer x m ps c.requires.kept.pieces.sections) in
    record {
      order = c.requires.shaped.formed.order;
      long = c.len_beside-len.ensures (with_export x m) alone refl refl longer (alone_len written_export x c.export_len.result c.export_len.ensures);
      kept = c.requires.kept;
      makes = refl;
      decides = refl;
    }

pub returns-then-is_none : goal.returns-then-is_none
returns-then-is_none c = too_long (added (goal.at.returns-then-is_none c).After-len_beside-len) c.if-is_none.ensures

pub returns-in_err-export : goal.returns-in_err-export
returns-in_err-export c =
    uncopied (added (goal.at.returns-in_err-export c).After-len_beside-len) c.if-is_none.ensures c.from_residual.result
    (err_from_is_err_and c.from_residual.result c.from_residual.ensures.1)

pub push_export-requires-clause-len : goal.push_export-requires-clause-len
push_export-requires-clause-len c =
    copy_long (added (goal.at.push_export-requires-clause-len c).After-len_beside-len) c.in_ok-export.export c.in_ok-export.ensures

pub returns-in_err-sections : goal.returns-in_err-sections
returns-in_err-sections c =
    let new = c.push_export.new in
    let result = c.from_residual-in_err-sections.result in
    unpushed (added (goal.at.returns-in_err-sections c).After-len_beside-len) c.in_ok-export.export c.in_ok-export.ensures c.if-is_none.ensures
    new.parts new.kept 0 1 c.in_err-sections.field-0.0 result (err_from_is_err_and result c.from_residual-in_err-sections.ensures.1)
    c.in_err-sections.ensures.grown c.in_err-sections.ensures.err

pub returns : goal.returns
returns c =
    let m = c.args.parts.now in
    let y = c.in_ok-export.export in
    let grown = c.in_ok-sections.ensures.grown in
    let works = c.work_on.ensures ∙ codeless_work (edits.Export y) m (settle (with_export y m)) refl (λ f. refl) 0 c.in_ok-sections.sections grown.2 grown.3 in
    let valid : IsExport y = (c.as_str-name.ensures.utf8, search rules) in
    let formed = export_formed y m (room_kept m c.args.kept.now ExportSection c.requires.kept) valid c.requires.shaped.formed in
    let new = c.push_export.new in
    pushed (added (goal.at.returns c).After-len_beside-len) y c.in_ok-export.ensures new.parts new.kept 0 c.in_ok-sections.sections 1 c.work_on.result
    c.in_ok-sections.ensures.ok grown works formed
