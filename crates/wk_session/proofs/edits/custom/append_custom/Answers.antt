use Rattle.std.proofs.Common.{◌++◌, ◌∷◌, [], refl, sym, subst}
use Rattle.std.proofs.lemmas.Result.{err_from_is_err_and}
use Rattle.wk_module.specs.declared.types.Parts.{Parts}
use Rattle.wk_session.specs.Customs.{last_custom}
use Rattle.wk_session.specs.Kept.{IsKept}
use Rattle.wk_session.proofs.CustomEdits.{customs_before, customs_after, customs_kept, put_unfit, put_wanting}
use Rattle.wk_session.proofs.CustomPuts.{last_formed}
use Rattle.wk_session.proofs.Leading.{fits_settled}
use Rattle.wk_session.proofs.edits.custom.append_custom.Goals as goal

pub returns-in_err-appraisal : goal.returns-in_err-appraisal
returns-in_err-appraisal c =
    let m = c.args.parts.now in
    let n : Parts = record m { customs = m.customs ++ last_custom c.args.name.now c.args.bytes.now ∷ [] } in
    let checked = c.in_err-appraisal.ensures.appraised n (last_formed c.args.name.now c.args.bytes.now m c.as_str-text.ensures.utf8 c.requires.shaped.formed)
    c.requires.kept.verdict c.len_with_custom-len.ensures in
    put_unfit c.args.keep m n c.args.parts.now c.args.kept.now refl c.from_residual.result c.in_err-appraisal.field-0.0
    (err_from_is_err_and c.from_residual.result c.from_residual.ensures.1) c.in_err-appraisal.ensures.other checked

pub returns-in_err-push_custom : goal.returns-in_err-push_custom
returns-in_err-push_custom c =
    let m = c.args.parts.now in
    let n : Parts = record m { customs = m.customs ++ last_custom c.args.name.now c.args.bytes.now ∷ [] } in
    let formed = last_formed c.args.name.now c.args.bytes.now m c.as_str-text.ensures.utf8 c.requires.shaped.formed in
    let checked = c.in_ok-appraisal.ensures.appraised n formed c.requires.kept.verdict c.len_with_custom-len.ensures in
    let result = c.from_residual-in_err-push_custom.result in
    put_wanting c.args.keep m n c.push_custom.new.parts c.args.kept.now c.in_err-push_custom.ensures.err result
    (err_from_is_err_and result c.from_residual-in_err-push_custom.ensures.1) (fits_settled n c.in_ok-appraisal.appraisal.len formed.order checked.2)

pub keep_len-requires-clause-before : goal.keep_len-requires-clause-before
keep_len-requires-clause-before c = customs_before c.args.parts.now [] c.args.kept.now c.requires.shaped.formed.order c.requires.kept

pub keep_len-requires-clause-after : goal.keep_len-requires-clause-after
keep_len-requires-clause-after c =
    let m = c.args.parts.now in
    let cs = m.customs ++ last_custom c.args.name.now c.args.bytes.now ∷ [] in
    let n : Parts = record m { customs = cs } in
    let formed = last_formed c.args.name.now c.args.bytes.now m c.as_str-text.ensures.utf8 c.requires.shaped.formed in
    let checked = c.in_ok-appraisal.ensures.appraised n formed c.requires.kept.verdict c.len_with_custom-len.ensures in
    customs_after m cs c.args.kept.now c.requires.shaped.formed.order c.requires.kept formed.order c.in_ok-appraisal.appraisal.len checked.2

pub returns : goal.returns
returns c =
    let m = c.args.parts.now in
    let cs = m.customs ++ last_custom c.args.name.now c.args.bytes.now ∷ [] in
    let n : Parts = record m { customs = cs } in
    let formed = last_formed c.args.name.now c.args.bytes.now m c.as_str-text.ensures.utf8 c.requires.shaped.formed in
    let checked = c.in_ok-appraisal.ensures.appraised n formed c.requires.kept.verdict c.len_with_custom-len.ensures in
    let kept = customs_kept m cs c.args.kept.now c.requires.shaped.formed.order c.requires.kept formed.order c.in_ok-appraisal.appraisal.len checked.2 in
    (checked.0, c.in_ok-push_custom.ensures.ok, formed, subst (IsKept n) (sym c.keep_len.ensures) kept)
