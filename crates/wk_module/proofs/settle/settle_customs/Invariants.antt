use Rattle.std.proofs.Common.{◌≡◌, ◌++◌, take, drop, map, false, slice_index_or}
use Rattle.wk_module.specs.Shape.{settled_custom}
use Rattle.wk_module.proofs.settle.settle_customs.Given as goal

abbrev pub invariant-loop-custom : goal.invariant-loop-custom
invariant-loop-custom l =
    let settled = settled_custom (λ id. slice_index_or l.filled id false) in
    l.custom-items ≡ map settled (take l.custom-index l.fn.customs) ++ drop l.custom-index l.fn.customs
