use Rattle.std.proofs.Common.{length, take}
use Rattle.std.specs.List.{flat_map}
use Rattle.wk_body.specs.Lengths.{GrowsBy}
use Rattle.wk_module.specs.Writing.{section_of, ids}
use Rattle.wk_module.proofs.length.plus_sections.Given as goal

abbrev pub invariant-loop-id : goal.invariant-loop-id
invariant-loop-id l = GrowsBy (length (flat_map (section_of l.parts) (take l.id ids))) l.fn.total l.all
