use Rattle.std.proofs.Common.{◌≡◌, ℕ, length, sym, ap, ◌∙◌, arith}
use Rattle.wk_bytes.specs.Short.{short}
use Rattle.wk_body.specs.Lengths.{limited}
use Rattle.wk_module.specs.WritingLaws.{length-framed}
use Rattle.wk_body.specs.LengthsLaws.{limited_some}
use Rattle.wk_module.proofs.length.plus_framed.Goals as goal

pub returns : goal.returns
returns c =
    λ id contents is.
    let size : c.in_ok-size.size ≡ length contents = (limited_some _ _ (sym c.in_ok-size.was ∙ is)).0 in
    let count = ap (λ (k : ℕ). length (short k)) size in
    λ n h. c.plus_size.ensures n h ∙ ap limited (omega (arith, size, count, length-framed id contents))
