use Rattle.std.proofs.Common.{sym, ◌∙◌}
use Rattle.wk_session.proofs.edits.renumber.move_func.Goals as goal

pub returns-else-is_moving : goal.returns-else-is_moving
returns-else-is_moving c = sym (c.moving_of_module.ensures.funcs c.args.kind c.args.from c.args.func.now (sym c.requires.moves ∙ c.if-is_moving.false)).0
