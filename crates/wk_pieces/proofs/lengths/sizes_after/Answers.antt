use Rattle.std.proofs.Common.{◌≡◌, ◌≤◌, ℕ, List, ◌++◌, length, map, take, drop, replicate, ap, ◌∙◌, arith}
use Rattle.std.proofs.lemmas.List.{append-nil, take_all, length-map}
use Rattle.wk_pieces.specs.Overlays.{with_items}
use Rattle.wk_pieces.proofs.Replacing.{length-with_items}
use Rattle.wk_pieces.proofs.lengths.sizes_after.Goals as goal

pub returns : goal.returns
returns c =
    let all = with_items c.args.sections.now.items c.args.news.now.items in
    let sizes : List ℕ = map length all in
    let id = c.loop-id.id in
    let last : id ≡ 12 = omega arith in
    let count : length sizes ≤ id =
    omega (arith, last, length-map all length, length-with_items c.args.sections.now.items c.args.news.now.items, c.requires.sections) in
    c.loop-id.invariant
    ∙ ap (λ (n : ℕ). take id sizes ++ drop n (replicate 12 0)) last
    ∙ append-nil (take id sizes) ∙ take_all id sizes count
