use Rattle.std.proofs.Common.{◌≡◌, ◌-◌}
use Rattle.wk_bytes.specs.Span.{u32_at}
use Rattle.wk_body.specs.Vectors.{vector_at}
use Rattle.wk_place.specs.Seeking.{all_passed, passed}
use Rattle.wk_place.proofs.items.pass_indices.Given as goal

abbrev pub invariant-loop : goal.invariant-loop
invariant-loop l = record {
  end : l.cursor.end ≡ l.fn.cursor.end;
  reads : all_passed u32_at (l.count - l.counter) l.cursor.end l.cursor.rest ≡ passed (vector_at u32_at) l.fn.cursor.end l.fn.cursor.rest;
}
