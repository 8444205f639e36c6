use Rattle.std.proofs.Common.{◌≡◌, ◌*◌, take}
use Rattle.std.specs.List.{flat_map}
use Rattle.wk_list.specs.Text.{both_digits}
use Rattle.wk_list.proofs.hexadecimal.digits_of.Given as goal

abbrev pub invariant-loop-byte : goal.invariant-loop-byte
invariant-loop-byte l = record {
  place : l.end ≡ 2 * l.byte-index;
  so_far : take l.end l.digits ≡ flat_map both_digits (take l.byte-index l.bytes);
}
