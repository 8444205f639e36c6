use Rattle.std.proofs.Common.{length, take}
use Rattle.std.specs.List.{flat_map}
use Rattle.wk_body.specs.Lengths.{GrowsBy}
use Rattle.wk_module.specs.Customs.{written_custom}
use Rattle.wk_module.specs.Writing.{framed}
use Rattle.wk_module.proofs.length.plus_customs.Given as goal

abbrev pub invariant-loop-custom : goal.invariant-loop-custom
invariant-loop-custom l =
    GrowsBy (length (flat_map (λ c. framed 0 (written_custom c)) (take l.custom-index l.customs))) l.fn.total l.all
