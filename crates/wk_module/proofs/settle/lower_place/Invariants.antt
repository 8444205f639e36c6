use Rattle.std.proofs.Common.{◌≡◌, ℕ, false, slice_index_or}
use Rattle.wk_module.specs.Shape.{lowered}
use Rattle.wk_module.proofs.settle.lower_place.Given as goal

abbrev pub invariant-loop-id : goal.invariant-loop-id
invariant-loop-id l =
    let passes = λ (id : ℕ). slice_index_or l.filled id false in
    lowered passes l.id ≡ lowered passes l.fn.place

abbrev pub decreases-loop-id : goal.decreases-loop-id
decreases-loop-id l = l.id
