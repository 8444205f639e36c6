use Rattle.std.proofs.Common.{List, ◌+◌, length, ap, ◌∙◌, arith, length-append}
use Rattle.std.proofs.lemmas.List.{take_all}
use Rattle.std.specs.List.{flat_map}
use Rattle.wk_bytes.specs.Short.{short}
use Rattle.wk_body.specs.Lengths.{limited}
use Rattle.wk_module.specs.WritingLaws.{length_le_flat_map}
use Rattle.wk_module.proofs.Lengths.{length_more}
use Rattle.wk_module.proofs.vector_write.plus_vector.Goals as goal

pub loop-item-preserved : goal.loop-item-preserved
loop-item-preserved g c =
    let more = length_more g.F.Writable.written c.args.items.now c.loop-item.item-index c.item-item.result c.loop-item-test.true c.item-item.is in
    λ n h. c.measure-total.ensures _ (c.loop-item.invariant n h) ∙ ap limited (omega (arith, more))

pub returns : goal.returns
returns g c =
    let items = c.args.items.now in
    let bytes = flat_map g.F.Writable.written items in
    let all = ap (λ (xs : List g.row.F-Item.Denot). length (flat_map g.F.Writable.written xs)) (take_all c.loop-item.item-index items (omega arith)) in
    let fewer = length_le_flat_map g.F.Writable.written g.met.F.Writable.some items in
    λ n h. c.plus_count.ensures (n + length bytes) (c.loop-item.invariant n h ∙ ap limited (omega (arith, all))) (omega (arith, fewer))
    ∙ ap limited (omega (arith, length-append (short (length items)) bytes))
