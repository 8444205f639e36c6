use Rattle.wk_bytes.specs.Raw.{raw_view}
use Rattle.std.proofs.lemmas.Result.{err_from_is_err_and}
use Rattle.wk_module.proofs.Outlining.{section_beside, section_made, section_fails}
use Rattle.wk_module.proofs.outline.read_section.Goals as goal

pub returns-then-section-ne-CODE : goal.returns-then-section-ne-CODE
returns-then-section-ne-CODE g c = λ p is.
    section_beside g.K.Keep.kept c.args.profile p (raw_view c.args.section.now)
    (λ u. c.read_section.new.self) c.read_section.result _ is c.if-section-ne-CODE.true c.read_section.ensures

pub returns-in_err-kept : goal.returns-in_err-kept
returns-in_err-kept g c = λ p is.
    let q = err_from_is_err_and c.from_residual.result c.from_residual.ensures.1 in
    rw (q.1, q.2)
    (section_fails g.K.Keep.kept c.args.profile p (raw_view c.args.section.now) _ _ c.len-funcs.result is c.so_far.view_is c.if-section-ne-CODE.false
    c.len-funcs.ensures c.in_err-kept.field-0.0
    c.in_err-kept.ensures)

pub returns : goal.returns
returns g c = λ p is.
    section_made g.K.Keep.kept c.args.profile p (raw_view c.args.section.now) _ _ c.len-funcs.result is c.so_far.view_is c.if-section-ne-CODE.false
    c.len-funcs.ensures c.place_behind-so_far-inside.result _ c.is_empty.result
    c.in_ok-kept.field-0.items c.place_behind-so_far-inside.ensures c.is_empty.ensures c.in_ok-kept.field-0.ok.0 c.in_ok-kept.ensures
