use Rattle.std.proofs.Common.{◌≡◌, refl, sym, ◌∙◌}
use Rattle.wk_module.specs.Changes.{with_global}
use Rattle.wk_module.specs.Listed.{listed}
use Rattle.wk_check.specs.SpacesLaws.{global_grows}
use Rattle.wk_typing.specs.declared.fault.Verdict.{Verdict}
use Rattle.wk_check.specs.Verdict.{module_verdict}
use Rattle.wk_session.proofs.Growing.{grown_known}
use Rattle.wk_session.proofs.Lent.{lent, lent_is, numbered_lent}
use Rattle.wk_session.proofs.edits.global.known_with_global.Goals as goal
use Rattle.wk_session.proofs.edits.global.known_with_global.Goals.{After-of-lists}

lists_are : (c : After-of-lists) → listed c.of-lists.result ≡ lent c.args.parts.now
lists_are c = lent_is c.args.parts.now c.deref.result.now (listed c.of-lists.result) c.of-lists.ensures.lists (c.deref.ensures.value ∙ c.requires.kept.types)

pub verdict_with_global-requires : goal.verdict_with_global-requires
verdict_with_global-requires c =
    numbered_lent c.args.parts.now (listed c.of-lists.result) (lists_are (goal.at.verdict_with_global-requires c).After-of-lists) c.requires.shaped.formed

pub returns-clause-some : goal.returns-clause-some
returns-clause-some c =
    let m = c.args.parts.now in
    let g = c.args.global.now in
    let laws = c.laws_of_valid_modules.ensures in
    let valid : module_verdict m ≡ Verdict.Valid = sym c.requires.kept.verdict ∙ c.in_default.is in
    let verdict = c.in_ok-verdict.ensures m (lists_are (goal.at.returns-clause-some c).After-of-lists) valid in
    grown_known laws.stay laws.found m (with_global g.ty g.init m) c.in_ok-verdict.verdict valid (global_grows m g.ty g.init) refl verdict
