use Rattle.std.proofs.Common.{◌≡◌, ◌+◌, length, take}
use Rattle.std.specs.List.{flat_map}
use Rattle.wk_module.specs.Writing.{section_and_customs, ids}
use Rattle.wk_list.proofs.code.code_start.Given as goal

abbrev pub invariant-loop-id : goal.invariant-loop-id
invariant-loop-id g l = l.at ≡ 8 + length (flat_map (section_and_customs (g.S.Shape.seen l.shape)) (take l.id ids))
