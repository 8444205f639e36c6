use Rattle.std.proofs.Common.{ℕ, List, length, sym, ap, ◌∙◌, arith}
use Rattle.std.specs.List.{sum_by}
use Rattle.std.proofs.lemmas.List.{take_all}
use Rattle.wk_body.specs.Lengths.{limited}
use Rattle.wk_module.specs.Sizes.{entry_size}
use Rattle.wk_module.proofs.CodesApart.{no_items}
use Rattle.wk_module.proofs.Lengths.{some_length, bodies_few, no_codes, codes_sized}
use Rattle.wk_module.proofs.codes.codes_len_by.Goals as goal

pub returns-then-is_empty : goal.returns-then-is_empty
returns-then-is_empty c =
    λ bodies is. sym (ap (λ (b : List ℕ). limited (length b)) (no_codes c.args.sizes.now bodies (no_items c.args.sizes.now (sym c.if-is_empty.ensures)) is))

pub returns : goal.returns
returns c =
    λ bodies is.
    let sizes = c.args.sizes.now in
    let all = ap (λ (ns : List ℕ). limited (sum_by entry_size ns)) (take_all c.loop-size.size-index sizes (omega arith)) in
    c.plus_count.ensures (sum_by entry_size sizes) (c.loop-size.invariant ∙ all) (bodies_few sizes bodies is)
    ∙ ap limited (sym (codes_sized sizes bodies (some_length sizes (sym c.if-is_empty.ensures)) is))
