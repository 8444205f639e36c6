use Rattle.std.proofs.Common.{ℕ, List, ◌<◌, length, ap, ◌∙◌, arith}
use Rattle.std.proofs.lemmas.List.{take_all}
use Rattle.std.specs.List.{flat_map}
use Rattle.wk_body.specs.Lengths.{limited}
use Rattle.wk_module.specs.Writing.{section_of, ids}
use Rattle.wk_module.proofs.Lengths.{length_more}
use Rattle.wk_module.specs.WritingLaws.{id_is}
use Rattle.wk_module.proofs.length.plus_sections.Goals as goal

pub loop-id-preserved : goal.loop-id-preserved
loop-id-preserved c =
    let id = c.loop-id.id in
    let lt : id < 12 = omega arith in
    let more = length_more (section_of c.args.parts.now) ids id id lt (id_is id lt) in
    λ n h. c.plus_section-all.ensures _ (c.loop-id.invariant n h) ∙ ap limited (omega (arith, more))

pub returns : goal.returns
returns c =
    let all = take_all c.loop-id.id ids (omega arith) in
    λ n h. c.loop-id.invariant n h ∙ ap limited (omega (arith, ap (λ (xs : List ℕ). length (flat_map (section_of c.args.parts.now) xs)) all))
