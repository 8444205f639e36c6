use Rattle.std.proofs.Common.{◌≡◌, ◌-◌}
use Rattle.wk_body.specs.Vectors.{items_at, vector_at}
use Rattle.wk_module.proofs.VectorReading.{with_front}
use Rattle.wk_module.proofs.vector_read.read_vector.Given as goal

abbrev pub invariant-loop : goal.invariant-loop
invariant-loop g l = record {
  reads : with_front l.items.items (items_at (g.F.Readable.read_at l.profile) (l.count - l.counter) l.cursor.end l.cursor.rest)
      ≡ vector_at (g.F.Readable.read_at l.profile) l.fn.cursor.end l.fn.cursor.rest;
  end : l.cursor.end ≡ l.fn.cursor.end;
}
