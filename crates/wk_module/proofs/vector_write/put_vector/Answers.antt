use Rattle.std.proofs.Common.{length, arith, length-append}
use Rattle.std.specs.List.{flat_map}
use Rattle.wk_bytes.specs.Short.{short}
use Rattle.wk_module.specs.WritingLaws.{length_le_flat_map}
use Rattle.wk_module.specs.WritingLaws.{piece_le}
use Rattle.wk_module.proofs.vector_write.put_vector.Goals as goal

pub overflow_cast-items : goal.overflow_cast-items
overflow_cast-items g c =
    let items = c.args.items.now in
    omega (
      arith,
      c.requires,
      length_le_flat_map g.F.Writable.written g.met.F.Writable.some items,
      length-append (short (length items)) (flat_map g.F.Writable.written items),
    )

pub put-requires : goal.put-requires
put-requires g c =
    let items = c.args.items.now in
    let le = piece_le g.F.Writable.written items c.loop-item.item-index c.item-item.result c.loop-item-test.true c.item-item.is in
    omega (arith, c.requires, le, length-append (short (length items)) (flat_map g.F.Writable.written items))
