use Rattle.std.proofs.Common.{◌≡◌, ◌+◌, ◌++◌, length, take}
use Rattle.wk_bytes.specs.Short.{short_signed, sizeS}
use Rattle.wk_body.proofs.token_buffer.put_long_signed.Given as goal

abbrev pub invariant-loop-buf : goal.invariant-loop-buf
invariant-loop-buf l = record {
  counted : l.end + length (short_signed l.rest) ≡ l.at + length (short_signed l.n);
  spelled : take l.end l.buf ++ short_signed l.rest ≡ take l.at l.fn.buf ++ short_signed l.n;
}

abbrev pub decreases-loop-buf : goal.decreases-loop-buf
decreases-loop-buf l = sizeS l.rest
