use Rattle.std.proofs.Common.{◌≡◌, length, take}
use Rattle.std.specs.List.{flat_map}
use Rattle.wk_body.specs.Written.{written_group}
use Rattle.wk_list.proofs.code.groups_len.Given as goal

abbrev pub invariant-loop-group : goal.invariant-loop-group
invariant-loop-group l = l.total ≡ length (flat_map written_group (take l.group-index l.groups))
