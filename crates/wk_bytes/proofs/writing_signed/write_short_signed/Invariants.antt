use Rattle.std.proofs.Common.{◌≡◌, ◌+◌, ◌++◌, length, take}
use Rattle.wk_bytes.specs.Short.{short_signed, sizeS}
use Rattle.wk_bytes.proofs.writing_signed.write_short_signed.Given as goal

abbrev pub invariant-loop-bytes : goal.invariant-loop-bytes
invariant-loop-bytes l = record {
  counted : l.len + length (short_signed l.rest) ≡ length (short_signed l.n);
  spelled : take l.len l.bytes ++ short_signed l.rest ≡ short_signed l.n;
}

abbrev pub decreases-loop-bytes : goal.decreases-loop-bytes
decreases-loop-bytes l = sizeS l.rest
