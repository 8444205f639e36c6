use Rattle.std.proofs.Common.{◌≡◌, ◌+◌, ◌*◌, length, take}
use Rattle.std.specs.List.{sum_by}
use Rattle.wk_draft.proofs.size_bound.deferred_room.Given as goal

abbrev pub invariant-loop-code : goal.invariant-loop-code
invariant-loop-code l = record {
  total : l.total ≡ sum_by (λ code. 3 * length code + 5) (take l.code-index l.code-items);
}
