use Rattle.std.proofs.Common.{◌≡◌, take}
use Rattle.std.specs.Io.KnownBytes.{Appends}
use Rattle.wk_module.specs.Writing.{customs_at}
use Rattle.wk_pieces.proofs.written.put_customs_at.Given as goal

abbrev pub invariant-loop-custom : goal.invariant-loop-custom
invariant-loop-custom g l = record {
  taken : Appends (g.W.Out.taken l.fn.out) (g.W.Out.taken l.out) (customs_at l.place (take l.custom-index l.customs));
  failures : g.W.Out.failed l.out ≡ g.W.Out.failed l.fn.out;
}
