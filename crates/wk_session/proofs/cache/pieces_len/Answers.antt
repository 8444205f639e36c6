use Rattle.std.proofs.Common.{List, ℕ, length, map, ap, ◌∙◌}
use Rattle.wk_pieces.specs.Overlays.{with_items}
use Rattle.wk_pieces.specs.Pieces.{no_news}
use Rattle.wk_pieces.proofs.Putting.{codes_length}
use Rattle.wk_session.proofs.cache.pieces_len.Goals as goal

pub returns : goal.returns
returns c =
    λ m order are.
    let p = c.args.pieces.now in
    let all = ap (with_items p.sections.items) c.in_ok-news.ensures ∙ ap (λ (ps : List (List ℕ)). with_items ps no_news) are.sections in
    let sizes = c.sizes_after-sizes.ensures ∙ ap (map length) all in
    c.module_len.ensures m order sizes (c.len-count.ensures ∙ p.codes.ok.0 ∙ codes_length m p.codes.items are.codes) are.codes_len are.customs_len
