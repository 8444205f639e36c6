use Rattle.std.proofs.Common.{None, refl, ◌∙◌, arith}
use Rattle.wk_pieces.proofs.Replacing.{with_items_lent}
use Rattle.wk_pieces.proofs.replace.item_at.Goals as goal

pub returns-in-Some : goal.returns-in-Some
returns-in-Some g c =
    let there = c.as_ref.ensures.value ∙ c.in-Some.ensures.lookup.4 (omega arith) None in
    with_items_lent _ _ _ c.as_ref.result c.index.result c.unwrap_or.result c.requires there c.index.ensures c.unwrap_or.ensures

pub returns-in-None : goal.returns-in-None
returns-in-None g c =
    let none = c.in-None.ensures.lookup.4 (omega arith) None in
    with_items_lent _ _ _ None c.index-in-None.result c.index-in-None.result c.requires none c.index-in-None.ensures refl
