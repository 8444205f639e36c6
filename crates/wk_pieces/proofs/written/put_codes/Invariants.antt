use Rattle.std.proofs.Common.{◌≡◌, take}
use Rattle.std.specs.List.{flat_map}
use Rattle.std.specs.Io.KnownBytes.{Appends}
use Rattle.wk_module.specs.Formats.{written_bytes}
use Rattle.wk_pieces.proofs.written.put_codes.Given as goal

abbrev pub invariant-loop-i : goal.invariant-loop-i
invariant-loop-i g l = record {
  taken : Appends (g.W.Out.taken l.fn.out) (g.W.Out.taken l.out) (flat_map written_bytes (take l.i l.codes));
  failures : g.W.Out.failed l.out ≡ g.W.Out.failed l.fn.out;
}
