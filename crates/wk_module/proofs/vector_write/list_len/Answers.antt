use Rattle.std.proofs.Common.{refl, sym, ap, ◌∙◌, arith}
use Rattle.wk_body.specs.Lengths.{limited}
use Rattle.wk_module.proofs.Lengths.{some_items}
use Rattle.wk_module.proofs.vector_write.list_len.Goals as goal

pub returns : goal.returns
returns g c = rw (some_items c.args.items.now (sym (c.if-is_empty.ensures))) (c.plus_vector.ensures 0 refl ∙ ap limited (omega arith))
