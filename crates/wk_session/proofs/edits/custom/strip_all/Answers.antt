use Rattle.std.proofs.Common.{◌≡◌, List, [], refl, sym, ap, ◌∙◌}
use Rattle.wk_module.specs.declared.types.Custom.{Custom}
use Rattle.wk_module.specs.declared.types.Parts.{Parts}
use Rattle.wk_module.specs.Shape.{settle, IsFormed}
use Rattle.wk_module.specs.ShapeLaws.{customs_formed}
use Rattle.wk_module.specs.Writing.{Fits}
use Rattle.wk_session.specs.declared.edit.Edit.TheVariants as edits
use Rattle.wk_session.specs.Edits.{without_all_customs}
use Rattle.wk_session.proofs.CustomEdits.{bare_fits, customs_before, customs_lead, size_fits}
use Rattle.wk_session.proofs.Keeping.{kept_fits}
use Rattle.wk_session.proofs.Works.{typeless_work}
use Rattle.wk_session.proofs.edits.custom.strip_all.Goals as goal
use Rattle.wk_session.proofs.edits.custom.strip_all.Goals.{After-new}

without : (c : After-new) → record c.args.parts.now { customs = c.new.result } ≡ without_all_customs c.args.parts.now
without c = ap (λ (cs : List Custom). let p : Parts = record c.args.parts.now { customs = cs } in p) c.new.ensures

formed : (c : After-new) → IsFormed (without_all_customs c.args.parts.now)
formed c = customs_formed [] c.args.parts.now tt tt c.requires.shaped.formed

fits : (c : After-new) → Fits (without_all_customs c.args.parts.now)
fits c = bare_fits c.args.parts.now (kept_fits c.args.parts.now c.args.kept.now c.requires.kept)

pub keep_customs-requires-clause-before : goal.keep_customs-requires-clause-before
keep_customs-requires-clause-before c = customs_before c.args.parts.now [] c.args.kept.now c.requires.shaped.formed.order c.requires.kept

pub keep_customs-requires-clause-fits : goal.keep_customs-requires-clause-fits
keep_customs-requires-clause-fits c =
    let at = (goal.at.keep_customs-requires-clause-fits c).After-new in
    size_fits c.args.parts.now [] c.args.kept.now c.requires.shaped.formed.order c.requires.kept _ (without at) (formed at) (fits at)

pub returns : goal.returns
returns c =
    let m = c.args.parts.now in
    let n = without_all_customs m in
    let e = edits.StripAll in
    let at = (goal.at.returns c).After-new in
    let makes = c.in_ok-check_verdict.ensures (settle n) (sym c.requires.kept.verdict) in
    let works = c.work_on.ensures ∙ typeless_work e m (settle n) refl (λ f. refl) 0 (λ r. refl) refl in
    customs_lead m [] c.args.kept.now c.requires.shaped.formed.order c.requires.kept _ (without at) (formed at) (fits at) c.args.keep e
    c.keep_customs.new.kept c.work_on.result makes works c.keep_customs.ensures
