use Rattle.std.proofs.Common.{◌≡◌, ◌≤◌, true, vec_len, vec_capacity}
use Rattle.std.specs.Prelude.{replicate}
use Rattle.wk_draft.proofs.run.defer_all.Given as goal

abbrev pub invariant-loop : goal.invariant-loop
invariant-loop l = record {
  items : l.deferred.items ≡ replicate l.counter true;
  len : vec_len l.deferred ≡ l.counter;
  room : l.count ≤ vec_capacity l.deferred;
}
