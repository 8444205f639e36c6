use Rattle.std.proofs.Common.{◌≡◌, ◌+◌, length}
use Rattle.wk_bytes.specs.Short.{short_signed, sizeS}
use Rattle.wk_bytes.proofs.writing_signed.leb_len_s64.Given as goal

abbrev pub invariant-loop-rest : goal.invariant-loop-rest
invariant-loop-rest l = l.len + length (short_signed l.rest) ≡ 1 + length (short_signed l.n)

abbrev pub decreases-loop-rest : goal.decreases-loop-rest
decreases-loop-rest l = sizeS l.rest
