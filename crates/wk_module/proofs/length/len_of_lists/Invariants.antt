use Rattle.std.proofs.Common.{◌+◌, length, take}
use Rattle.std.specs.List.{flat_map}
use Rattle.wk_body.specs.Lengths.{limited}
use Rattle.std.specs.Prelude.{◌≡◌}
use Rattle.wk_module.specs.declared.types.Parts.{Parts}
use Rattle.wk_module.specs.Listed.{listed}
use Rattle.wk_module.specs.Sizes.{AreListsOf}
use Rattle.wk_module.specs.Writing.{section_of, ids}
use Rattle.wk_module.proofs.length.len_of_lists.Given as goal

abbrev pub invariant-loop-id : goal.invariant-loop-id
invariant-loop-id l = (m : Parts) → AreListsOf (listed l.lists) l.code_sizes m → l.total ≡ limited (8 + length (flat_map (section_of m) (take l.id ids)))
