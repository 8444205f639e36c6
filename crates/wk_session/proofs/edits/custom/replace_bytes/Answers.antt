use Rattle.std.proofs.Common.{List, [], ℕ, refl, sym, ap, subst, ◌∙◌}
use Rattle.std.proofs.lemmas.Result.{err_from_is_err_and}
use Rattle.wk_module.specs.declared.types.Parts.{Parts}
use Rattle.wk_session.specs.Customs.{bytes_at}
use Rattle.wk_session.specs.Kept.{IsKept}
use Rattle.wk_session.proofs.CustomEdits.{customs_before, customs_after, customs_kept, put_unfit, put_wanting}
use Rattle.wk_session.proofs.CustomPuts.{bytes_formed}
use Rattle.wk_session.proofs.Leading.{fits_settled}
use Rattle.wk_session.proofs.edits.custom.replace_bytes.Goals as goal

pub returns-in_err-appraisal : goal.returns-in_err-appraisal
returns-in_err-appraisal c =
    let m = c.args.parts.now in
    let n : Parts = record m { customs = bytes_at c.args.index c.args.bytes.now m.customs } in
    let checked = c.in_err-appraisal.ensures.appraised n (bytes_formed c.args.index c.args.bytes.now m c.requires.shaped.formed)
    c.requires.kept.verdict c.len_with_bytes-len.ensures in
    put_unfit c.args.keep m n c.args.parts.now c.args.kept.now refl c.from_residual.result c.in_err-appraisal.field-0.0
    (err_from_is_err_and c.from_residual.result c.from_residual.ensures.1) c.in_err-appraisal.ensures.other checked

pub returns-in_err-bytes : goal.returns-in_err-bytes
returns-in_err-bytes c =
    let m = c.args.parts.now in
    let n : Parts = record m { customs = bytes_at c.args.index c.args.bytes.now m.customs } in
    let formed = bytes_formed c.args.index c.args.bytes.now m c.requires.shaped.formed in
    let checked = c.in_ok-appraisal.ensures.appraised n formed c.requires.kept.verdict c.len_with_bytes-len.ensures in
    let result = c.from_residual-in_err-bytes.result in
    put_wanting c.args.keep m n c.args.parts.now c.args.kept.now refl result (err_from_is_err_and result c.from_residual-in_err-bytes.ensures.1)
    (fits_settled n c.in_ok-appraisal.appraisal.len formed.order checked.2)

pub keep_len-requires-clause-before : goal.keep_len-requires-clause-before
keep_len-requires-clause-before c = customs_before c.args.parts.now [] c.args.kept.now c.requires.shaped.formed.order c.requires.kept

pub keep_len-requires-clause-after : goal.keep_len-requires-clause-after
keep_len-requires-clause-after c =
    let m = c.args.parts.now in
    let cs = bytes_at c.args.index c.args.bytes.now m.customs in
    let n : Parts = record m { customs = cs } in
    let formed = bytes_formed c.args.index c.args.bytes.now m c.requires.shaped.formed in
    let checked = c.in_ok-appraisal.ensures.appraised n formed c.requires.kept.verdict c.len_with_bytes-len.ensures in
    customs_after m cs c.args.kept.now c.requires.shaped.formed.order c.requires.kept formed.order c.in_ok-appraisal.appraisal.len checked.2

pub returns : goal.returns
returns c =
    let m = c.args.parts.now in
    let i = c.args.index in
    let bytes = c.args.bytes.now in
    let n : Parts = record m { customs = bytes_at i bytes m.customs } in
    let formed = bytes_formed i bytes m c.requires.shaped.formed in
    let checked = c.in_ok-appraisal.ensures.appraised n formed c.requires.kept.verdict c.len_with_bytes-len.ensures in
    let same = c.put_bytes.ensures ∙ ap (λ (b : List ℕ). let p : Parts = record m { customs = bytes_at i b m.customs } in p) c.in_ok-bytes.ensures in
    let kept = customs_kept m (bytes_at i bytes m.customs) c.args.kept.now c.requires.shaped.formed.order c.requires.kept formed.order
    c.in_ok-appraisal.appraisal.len checked.2 in
    (checked.0, same, formed, subst (IsKept n) (sym c.keep_len.ensures) kept)
