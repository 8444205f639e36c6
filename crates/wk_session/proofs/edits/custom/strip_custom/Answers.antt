use Rattle.std.proofs.Common.{◌≡◌, [], not, true, rules, refl, sym, ◌∙◌}
use Rattle.std.specs.List.{list_any}
use Rattle.wk_module.specs.declared.types.Custom.{Custom}
use Rattle.wk_module.specs.Shape.{IsFormed, settle}
use Rattle.wk_module.specs.ShapeLaws.{filter_formed}
use Rattle.wk_module.specs.Writing.{Fits}
use Rattle.wk_session.specs.declared.edit.Edit.TheVariants as edits
use Rattle.wk_session.specs.Edits.{is_named, without_customs}
use Rattle.wk_session.proofs.CustomEdits.{filtered_fits, customs_before, customs_lead, size_fits, stripped_made}
use Rattle.wk_session.proofs.Keeping.{kept_fits}
use Rattle.wk_session.proofs.Works.{typeless_work}
use Rattle.wk_session.proofs.edits.custom.strip_custom.Goals as goal
use Rattle.wk_session.proofs.edits.custom.strip_custom.Goals.{After-remove_customs}

formed : (c : After-remove_customs) → IsFormed (without_customs c.args.name.now c.args.parts.now)
formed c = filter_formed (λ (d : Custom). not (is_named c.args.name.now d)) c.args.parts.now c.requires.shaped.formed

fits : (c : After-remove_customs) → Fits (without_customs c.args.name.now c.args.parts.now)
fits c =
    let m = c.args.parts.now in
    filtered_fits (λ (d : Custom). not (is_named c.args.name.now d)) m (without_customs c.args.name.now m) refl
    (kept_fits m c.args.kept.now c.requires.kept)

pub keep_customs-requires-clause-before : goal.keep_customs-requires-clause-before
keep_customs-requires-clause-before c = customs_before c.args.parts.now [] c.args.kept.now c.requires.shaped.formed.order c.requires.kept

pub keep_customs-requires-clause-fits : goal.keep_customs-requires-clause-fits
keep_customs-requires-clause-fits c =
    let m = c.args.parts.now in
    let at = (goal.at.keep_customs-requires-clause-fits c).After-remove_customs in
    size_fits m (without_customs c.args.name.now m).customs c.args.kept.now c.requires.shaped.formed.order c.requires.kept _ c.remove_customs.ensures
    (formed at) (fits at)

pub returns : goal.returns
returns c =
    let m = c.args.parts.now in
    let name = c.args.name.now in
    let n = without_customs name m in
    let e = edits.StripCustom name in
    let at = (goal.at.returns c).After-remove_customs in
    let has : list_any (is_named name) m.customs ≡ true = search rules in
    let makes = stripped_made c.args.keep name m has ∙ c.in_ok-check_verdict.ensures (settle n) (sym c.requires.kept.verdict) in
    let works = c.work_on.ensures ∙ typeless_work e m (settle n) refl (λ f. refl) 0 (λ r. refl) refl in
    customs_lead m n.customs c.args.kept.now c.requires.shaped.formed.order c.requires.kept _ c.remove_customs.ensures (formed at) (fits at) c.args.keep e
    c.keep_customs.new.kept c.work_on.result makes works c.keep_customs.ensures
