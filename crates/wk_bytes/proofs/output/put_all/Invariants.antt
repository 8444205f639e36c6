use Rattle.std.proofs.Common.{◌≡◌, ℕ, List, ◌++◌, length}
use Rattle.std.specs.Io.KnownBytes.{Appends}
use Rattle.wk_bytes.proofs.output.put_all.Given as goal

abbrev pub invariant-loop-rest : goal.invariant-loop-rest
invariant-loop-rest g l = record {
  so_far : (front : List ℕ) × (l.bytes ≡ front ++ l.rest) × Appends (g.W.Out.taken l.fn.out) (g.W.Out.taken l.out) front;
  failures : g.W.Out.failed l.out ≡ g.W.Out.failed l.fn.out;
}

abbrev pub decreases-loop-rest : goal.decreases-loop-rest
decreases-loop-rest g l = length l.rest
