use Rattle.std.proofs.Common.{◌≡◌, ◌≤◌, ◌+◌, ◌*◌, length, take}
use Rattle.std.specs.List.{flat_map}
use Rattle.wk_bytes.specs.Short.{short}
use Rattle.wk_body.specs.Written.{written_group}
use Rattle.wk_body.proofs.length.groups_len.Given as goal

abbrev pub invariant-loop-group : goal.invariant-loop-group
invariant-loop-group l = record {
  len : l.total ≡ length (short (length l.groups)) + length (flat_map written_group (take l.group-index l.groups));
  few : l.total ≤ 5 + 6 * l.group-index;
}
