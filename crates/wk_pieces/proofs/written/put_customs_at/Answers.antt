use Rattle.std.proofs.Common.{◌≡◌, suc, ◌<◌, ◌++◌, List, length, take, drop, ap, ◌∙◌, arith, slice_index_or, refl, length-append}
use Rattle.wk_module.specs.declared.types.Custom.{Custom}
use Rattle.wk_module.specs.Writing.{customs_at}
use Rattle.wk_module.specs.WritingLaws.{written_frame}
use Rattle.wk_pieces.proofs.Putting.{custom_split, takes_first, takes_later}
use Rattle.wk_pieces.proofs.written.put_customs_at.Given.{Over}
use Rattle.wk_pieces.proofs.written.put_customs_at.Goals as goal
use Rattle.wk_pieces.proofs.written.put_customs_at.Goals.{Then-custom-place}

split : (g : Over) (c : Then-custom-place g) → customs_at c.args.place c.args.customs.now
    ≡ customs_at c.args.place (take c.loop-custom.custom-index c.args.customs.now)
    ++ (written_frame c.custom-item.result ++ customs_at c.args.place (drop (suc c.loop-custom.custom-index) c.args.customs.now))
split g c =
    let customs = c.args.customs.now in
    let i = c.loop-custom.custom-index in
    let d = c.custom-item.result in
    let within : i < length customs = omega (arith, ap length c.as_slice-custom-items.ensures) in
    let at = c.custom-item.is ∙ ap (λ (cs : List Custom). slice_index_or cs i d) c.as_slice-custom-items.ensures in
    custom_split c.args.place customs i d within at c.if-custom-place.true

pub put_custom-requires-clause-few : goal.put_custom-requires-clause-few
put_custom-requires-clause-few g c =
    let place = c.args.place in
    let customs = c.args.customs.now in
    let i = c.loop-custom.custom-index in
    let frame = written_frame c.custom-item.result in
    let later = customs_at place (drop (suc i) customs) in
    omega (
      arith,
      c.requires.few,
      ap length (split g (goal.at.put_custom-requires-clause-few g c).Then-custom-place),
      length-append (customs_at place (take i customs)) (frame ++ later),
      length-append frame later,
    )

pub returns-in_err-put_custom-clause-taken : goal.returns-in_err-put_custom-clause-taken
returns-in_err-put_custom-clause-taken g c =
    let later = takes_first _ _ _ _ _ _ _ c.from_residual.ensures c.in_err-put_custom.ensures.taken refl in
    let so_far = customs_at c.args.place (take c.loop-custom.custom-index c.args.customs.now) in
    takes_later _ _ _ _ so_far _ _ c.loop-custom.invariant.taken later (split g (goal.at.returns-in_err-put_custom-clause-taken g c).Then-custom-place)
