use Rattle.std.proofs.Common.{ℕ, List, ◌<◌, length, ap, ◌∙◌, arith}
use Rattle.std.proofs.lemmas.List.{take_all}
use Rattle.std.specs.List.{flat_map}
use Rattle.wk_body.specs.Lengths.{limited}
use Rattle.wk_module.specs.declared.types.Custom.{Custom}
use Rattle.wk_module.specs.Writing.{section_of, ids}
use Rattle.wk_module.proofs.Lengths.{length_more}
use Rattle.wk_module.specs.WritingLaws.{id_is, length-encoded, written_frame}
use Rattle.wk_module.proofs.length.len_of_lists.Goals as goal

pub loop-id-preserved : goal.loop-id-preserved
loop-id-preserved c =
    λ m of.
    let id = c.loop-id.id in
    let lt : id < 12 = omega arith in
    let more = length_more (section_of m) ids id id lt (id_is id lt) in
    c.plus_lent-total.ensures m of _ (c.loop-id.invariant m of) ∙ ap limited (omega (arith, more))

pub returns : goal.returns
returns c =
    λ m of customs order.
    let all = ap (λ (xs : List ℕ). length (flat_map (section_of m) xs)) (take_all c.loop-id.id ids (omega arith)) in
    let frames = ap (λ (cs : List Custom). length (flat_map written_frame cs)) customs in
    c.plus_customs.ensures _ (c.loop-id.invariant m of) ∙ ap limited (omega (arith, all, frames, length-encoded m order))
