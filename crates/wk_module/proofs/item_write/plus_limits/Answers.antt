use Rattle.std.proofs.Common.{ℕ, Option, length, ap, ◌∙◌, arith, length-append}
use Rattle.wk_bytes.specs.Short.{short}
use Rattle.wk_body.specs.Lengths.{limited}
use Rattle.wk_module.specs.Types.{written_bounds}
use Rattle.wk_module.proofs.item_write.plus_limits.Goals as goal

pub returns-in-Some : goal.returns-in-Some
returns-in-Some c =
    let bounds = ap (λ (max : Option ℕ). length (written_bounds c.args.limits.min max)) c.in-Some.is in
    λ n h. c.plus_u32.ensures _ (c.plus_u32-total.ensures _ (c.plus.ensures n h))
    ∙ ap limited (omega (arith, bounds, length-append (short c.args.limits.min) (short c.in-Some.max)))
