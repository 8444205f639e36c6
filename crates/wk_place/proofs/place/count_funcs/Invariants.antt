use Rattle.std.proofs.Common.{◌≡◌, ◌-◌, ◌≤◌}
use Rattle.wk_body.specs.Vectors.{items_at}
use Rattle.wk_module.specs.Items.{import_at}
use Rattle.wk_place.specs.Seeking.{funcs_at}
use Rattle.wk_place.proofs.Counting.{counted}
use Rattle.wk_place.proofs.place.count_funcs.Given as goal

abbrev pub invariant-loop : goal.invariant-loop
invariant-loop l = record {
  few : l.funcs ≤ l.counter;
  end : l.cursor.end ≡ l.fn.cursor.end;
  reads : counted l.funcs (items_at import_at (l.count - l.counter) l.cursor.end l.cursor.rest) ≡ funcs_at l.fn.cursor.end l.fn.cursor.rest;
}
