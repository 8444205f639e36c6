use Rattle.std.proofs.Common.{◌≡◌, sym, ◌∙◌}
use Rattle.wk_module.specs.Listed.{listed}
use Rattle.wk_session.proofs.Lent.{lent, lent_is, numbered_lent}
use Rattle.wk_session.proofs.edits.export.known_with_export.Goals as goal
use Rattle.wk_session.proofs.edits.export.known_with_export.Goals.{After-of}

lists_are : (c : After-of) → listed c.of.result ≡ lent c.args.parts.now
lists_are c = lent_is c.args.parts.now c.deref.result.now (listed c.of.result) c.of.ensures.lists (c.deref.ensures.value ∙ c.requires.kept.types)

pub verdict_with_export-requires : goal.verdict_with_export-requires
verdict_with_export-requires c =
    numbered_lent c.args.parts.now (listed c.of.result) (lists_are (goal.at.verdict_with_export-requires c).After-of) c.requires.shaped.formed

pub returns-in-Valid-clause-some : goal.returns-in-Valid-clause-some
returns-in-Valid-clause-some c =
    c.verdict_with_export.ensures c.args.parts.now (lists_are (goal.at.returns-in-Valid-clause-some c).After-of) (sym c.requires.kept.verdict ∙ c.in-Valid.is)
