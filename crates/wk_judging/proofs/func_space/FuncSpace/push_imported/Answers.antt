use Rattle.std.proofs.Common.{◌∙◌}
use Rattle.wk_judging.proofs.FuncSpaces.{imported_more}
use Rattle.wk_judging.proofs.func_space.FuncSpace.push_imported.Goals as goal

pub returns : goal.returns
returns c =
    rw c.in_ok-insert.ensures.items (imported_more c.self.inside.imported c.self.inside.types.items c.args.ty _ c.self.invariant
    (c.self.view_is ∙ c.in_ok-make_first_room.ensures))
