use Rattle.std.proofs.Common.{◌≡◌, ◌<◌, length, arith, ap, sym, ◌∙◌, [], ◌∷◌, Some, None, length-append, length-set}
use Rattle.wk_pieces.specs.Overlays.{with_items}
use Rattle.wk_pieces.proofs.Replacing.{with_items_all, with_items_none, with_items_some, empty_list}
use Rattle.wk_pieces.proofs.replace.replace_each.Goals as goal

pub loop-new-preserved-in-Some-new : goal.loop-new-preserved-in-Some-new
loop-new-preserved-in-Some-new g c =
    let xs = c.loop-new.items.items in
    let ns = c.pop.new.self.items in
    let popped = rw c.in-Some-new.is at c.in-Some.ensures.items in
    let shorter : length ns < length xs = omega (arith, ap length popped, length-append ns (Some c.in-Some-new.item ∷ []), c.loop-new.invariant.fits) in
    record {
      fits = rw length-set (omega (arith, shorter));
      same = with_items_some xs ns _ c.in-Some-new.item (c.len-index.ensures ∙ c.pop.new.self.ok.0) shorter
          ∙ (ap (with_items xs) (sym popped) ∙ c.loop-new.invariant.same);
    }

pub loop-new-preserved : goal.loop-new-preserved
loop-new-preserved g c =
    let popped = rw c.in_default-new.is at c.in-Some.ensures.items in
    record {
      fits = omega (arith, ap length popped, length-append c.pop.new.self.items (None ∷ []), c.loop-new.invariant.fits);
      same = sym (with_items_none c.loop-new.items.items c.pop.new.self.items)
          ∙ (ap (with_items c.loop-new.items.items) (sym popped) ∙ c.loop-new.invariant.same);
    }

pub returns : goal.returns
returns g c =
    let ns = c.loop-new.news.items in
    let none : ns ≡ [] = empty_list ns (omega (arith, c.in_default.ensures.cases)) in
    sym (with_items_all c.loop-new.items.items) ∙ (ap (with_items c.loop-new.items.items) (sym none) ∙ c.loop-new.invariant.same)
