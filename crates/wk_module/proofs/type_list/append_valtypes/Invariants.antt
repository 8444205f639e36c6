use Rattle.std.proofs.Common.{◌≡◌, ◌-◌, take, length}
use Rattle.wk_body.specs.ValTypes.{valtype_at}
use Rattle.wk_body.specs.Vectors.{items_at, vector_at}
use Rattle.wk_module.proofs.VectorReading.{with_front}
use Rattle.wk_module.proofs.type_list.append_valtypes.Given as goal

abbrev pub invariant-loop : goal.invariant-loop
invariant-loop l = record {
  reads : with_front l.lists.items (items_at valtype_at (l.count - l.counter) l.cursor.end l.cursor.rest)
      ≡ with_front l.fn.lists.items (vector_at valtype_at l.fn.cursor.end l.fn.cursor.rest);
  stays : take (length l.fn.lists.items) l.lists.items ≡ l.fn.lists.items;
  end : l.cursor.end ≡ l.fn.cursor.end;
}
