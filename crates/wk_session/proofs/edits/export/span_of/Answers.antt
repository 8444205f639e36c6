use Rattle.std.proofs.Common.{◌≡◌, ℕ, ◌+◌, ◌-◌, length, take, drop, ap, arith}
use Rattle.std.specs.List.{flat_map}
use Rattle.wk_module.specs.Items.{written_export}
use Rattle.wk_session.proofs.ShorterLists.{span_inside}
use Rattle.wk_session.proofs.edits.export.span_of.Goals as goal

pub written_len-requires : goal.written_len-requires
written_len-requires c =
    omega (arith, span_inside written_export c.args.exports.now c.args.place c.requires.place, c.requires.few)

pub written_len-requires-2 : goal.written_len-requires-2
written_len-requires-2 c =
    let place = c.args.place in
    let one : place + 1 - place ≡ 1 = omega arith in
    let same = ap (λ (n : ℕ). length (flat_map written_export (take n (drop place c.args.exports.now)))) one in
    omega (arith, same, span_inside written_export c.args.exports.now place c.requires.place, c.requires.few)
