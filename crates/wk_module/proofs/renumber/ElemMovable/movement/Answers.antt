use Rattle.std.proofs.Common.{◌∙◌, refl}
use Rattle.wk_module.proofs.renumber.ElemMovable.movement.Goals as goal

pub returns : goal.returns
returns c = c.or.ensures
    ∙ rw (c.index_movement.ensures, c.or-offset.ensures, c.offset_movement.ensures, c.items_movement-funcs.ensures, c.as_slice.ensures) refl
