use Rattle.std.proofs.Common.{ℕ, List, length, refl, ap, ◌∙◌, arith}
use Rattle.wk_body.specs.Lengths.{limited}
use Rattle.wk_module.specs.Formats.{written_bytes}
use Rattle.wk_module.proofs.length.named_len.Goals as goal

pub returns : goal.returns
returns c =
    let name = ap (λ (b : List ℕ). length (written_bytes b)) (c.as_bytes.ensures.value ∙ c.as_str.ensures.value) in
    c.plus.ensures _ (c.plus_bytes-total.ensures 0 refl) ∙ ap limited (omega (arith, name))
