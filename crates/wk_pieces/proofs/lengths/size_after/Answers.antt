use Rattle.std.proofs.Common.{Some, length, sym, ap, ◌∙◌}
use Rattle.std.specs.Prelude.{option_map}
use Rattle.wk_pieces.proofs.lengths.size_after.Goals as goal

pub returns : goal.returns
returns c = ap Some c.len.ensures ∙ sym (ap (option_map length) (rw c.deref.ensures.value at c.item_at.ensures))
