use Rattle.std.proofs.Common.{◌≡◌, ◌++◌, take}
use Rattle.std.specs.List.{flat_map}
use Rattle.std.specs.Io.KnownBytes.{Appends}
use Rattle.wk_bytes.specs.Frames.{magic, version}
use Rattle.wk_module.specs.Writing.{ids}
use Rattle.wk_pieces.specs.Recoded.{place_with}
use Rattle.wk_pieces.proofs.written.put_module.Given as goal

abbrev pub invariant-loop-id : goal.invariant-loop-id
invariant-loop-id g l = record {
  taken : Appends (g.W.Out.taken l.fn.out) (g.W.Out.taken l.out) ((magic ++ version) ++ flat_map (place_with l.parts l.codes) (take l.id ids));
  failures : g.W.Out.failed l.out ≡ g.W.Out.failed l.fn.out;
}
