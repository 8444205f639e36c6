use Rattle.std.proofs.Common.{length, take}
use Rattle.std.specs.List.{flat_map}
use Rattle.wk_body.specs.Lengths.{GrowsBy}
use Rattle.wk_body.specs.Written.{written_group}
use Rattle.wk_body.proofs.length.plus_groups.Given as goal

abbrev pub invariant-loop-group : goal.invariant-loop-group
invariant-loop-group l = GrowsBy (length (flat_map written_group (take l.group-index l.groups))) l.fn.total l.all
