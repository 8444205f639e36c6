-- Where references move: what becomes of an index.
use Rattle.std.proofs.Common.{◌≡◌, ℕ, ◌<◌, ◌^◌, false, arith}
use Rattle.std.proofs.lemmas.Bool.Decides.{nat_tests}
use Rattle.wk_body.specs.References.{moved, is_stuck_at}

-- one that is not the greatest stays one of 32 bits
pub moved_small : (from x : ℕ) → is_stuck_at from x ≡ false → x < 2 ^ 32 → moved from x < 2 ^ 32
moved_small from x free small = grind (arith, nat_tests)
