-- Integers of one byte.
use Rattle.std.proofs.Common.{◌≡◌, ℕ, ◌<◌, ap, length, arith, rules}
use Rattle.std.specs.Prelude.{ℤ, pos, negsuc, ◌≤ℤ◌, ◌<ℤ◌}
use Rattle.wk_bytes.specs.Short.{short, short_signed}
use Rattle.wk_bytes.specs.ShortLaws.{short-last, short_signed-few, short_signed-some}

pub one_byte_signed : (z : ℤ) → negsuc 63 ≤ℤ z → z <ℤ pos 64 → length (short_signed z) ≡ 1
one_byte_signed (pos n) lo hi = let near : n < 64 = search rules in omega (arith, short_signed-few 7 (pos n) (omega arith) near, short_signed-some (pos n))
one_byte_signed (negsuc n) lo hi = let near : n < 64 = search rules in
    omega (arith, short_signed-few 7 (negsuc n) (omega arith) near, short_signed-some (negsuc n))

pub len_1 : (n : ℕ) → n < 128 → length (short n) ≡ 1
len_1 n small = ap length (short-last n small)
