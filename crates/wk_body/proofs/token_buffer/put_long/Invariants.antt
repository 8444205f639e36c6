use Rattle.std.proofs.Common.{◌≡◌, ◌+◌, ◌++◌, length, take}
use Rattle.wk_bytes.specs.Short.{short}
use Rattle.wk_body.proofs.token_buffer.put_long.Given as goal

abbrev pub invariant-loop-rest : goal.invariant-loop-rest
invariant-loop-rest l = record {
  counted : l.end + length (short l.rest) ≡ l.at + length (short l.n);
  spelled : take l.end l.buf ++ short l.rest ≡ take l.at l.fn.buf ++ short l.n;
}

abbrev pub decreases-loop-rest : goal.decreases-loop-rest
decreases-loop-rest l = l.rest
