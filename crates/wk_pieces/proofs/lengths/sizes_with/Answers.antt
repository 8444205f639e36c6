use Rattle.std.proofs.Common.{ℕ, List, length, map, set, ap, sym, ◌∙◌}
use Rattle.std.proofs.lemmas.List.{map-set}
use Rattle.wk_pieces.proofs.lengths.sizes_with.Goals as goal

pub returns : goal.returns
returns c =
    λ bytes size.
    let kept = c.args.sections.now.items in
    ap (λ (all : List ℕ). set all c.args.id c.args.size) c.sizes_of-sizes.ensures
    ∙ ap (λ (k : ℕ). set (map length kept) c.args.id k) size
    ∙ sym (map-set length kept c.args.id bytes)
