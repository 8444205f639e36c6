use Rattle.std.proofs.Common.{sym, ◌∙◌}
use Rattle.wk_session.proofs.edits.export.known_without_export.Goals as goal

pub returns-in-Valid-clause-some : goal.returns-in-Valid-clause-some
returns-in-Valid-clause-some c =
    sym (c.laws_of_valid_modules.ensures.without c.args.parts.now c.args.place (sym c.requires.kept.verdict ∙ c.in-Valid.is))
