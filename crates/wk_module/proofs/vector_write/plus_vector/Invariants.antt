use Rattle.std.proofs.Common.{length, take}
use Rattle.std.specs.List.{flat_map}
use Rattle.wk_body.specs.Lengths.{GrowsBy}
use Rattle.wk_module.proofs.vector_write.plus_vector.Given as goal

abbrev pub invariant-loop-item : goal.invariant-loop-item
invariant-loop-item g l = GrowsBy (length (flat_map g.F.Writable.written (take l.item-index l.items))) l.fn.so_far l.total
