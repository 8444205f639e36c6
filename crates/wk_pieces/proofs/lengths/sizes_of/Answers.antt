use Rattle.std.proofs.Common.{◌≡◌, ◌≤◌, ℕ, List, ◌++◌, length, map, take, drop, replicate, ap, ◌∙◌, arith}
use Rattle.std.proofs.lemmas.List.{append-nil, take_all, length-map}
use Rattle.wk_pieces.proofs.lengths.sizes_of.Goals as goal

pub returns : goal.returns
returns c =
    let sizes : List ℕ = map length c.args.sections.now.items in
    let id = c.loop-id.id in
    let last : id ≡ 12 = omega arith in
    let count : length sizes ≤ id = omega (arith, last, length-map c.args.sections.now.items length, c.requires) in
    c.loop-id.invariant
    ∙ ap (λ (n : ℕ). take id sizes ++ drop n (replicate 12 0)) last
    ∙ append-nil (take id sizes) ∙ take_all id sizes count
