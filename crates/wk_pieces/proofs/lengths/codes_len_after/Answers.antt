use Rattle.std.proofs.Common.{◌≤◌, ℕ, List, length, take, ap, ◌∙◌, arith}
use Rattle.std.proofs.lemmas.List.{take_all}
use Rattle.wk_body.specs.Lengths.{limited}
use Rattle.wk_pieces.specs.Overlays.{with_items}
use Rattle.wk_pieces.specs.Pieces.{entries_size}
use Rattle.wk_pieces.proofs.CodeLengths.{entries_next}
use Rattle.wk_pieces.proofs.Replacing.{length-with_items}
use Rattle.wk_pieces.proofs.lengths.codes_len_after.Goals as goal

pub loop-i-preserved : goal.loop-i-preserved
loop-i-preserved c =
    let all = with_items c.args.codes.now.items c.args.news.now.items in
    let i = c.loop-i.i in
    let at = rw c.deref.ensures.value at c.item_at.ensures in
    c.plus_code-total.ensures (entries_size (take i all)) c.loop-i.invariant ∙ ap limited (entries_next all i c.item_at.result.now at)

pub returns : goal.returns
returns c =
    let codes = c.args.codes.now.items in
    let all = with_items codes c.args.news.now.items in
    let past : length all ≤ c.loop-i.i = omega (arith, length-with_items codes c.args.news.now.items) in
    c.loop-i.invariant ∙ ap (λ (xs : List (List ℕ)). limited (entries_size xs)) (take_all c.loop-i.i all past)
