use Rattle.std.proofs.Common.{ℕ, List, ◌++◌, ◌∙◌, ap}
use Rattle.wk_list.proofs.HexText.{encoded}
use Rattle.wk_list.proofs.text.put_chunk.Goals as goal

pub returns : goal.returns
returns c =
    let h = encoded c.args.bytes.now (λ i. (c.type_inv.bytes i).fits) in
    rw h (c.in_ok-extend_from_slice.ensures.items ∙ ap (λ (t : List ℕ). c.args.text.now.items ++ t) c.digits_of-end.ensures.text)
