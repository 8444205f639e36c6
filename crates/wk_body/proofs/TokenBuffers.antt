-- Tokens that are written behind one another in a buffer.
use Rattle.std.proofs.Common.{◌≡◌, ℕ, ◌+◌, ◌^◌, ◌<◌, ℤ, List, ◌++◌, length, ap, ◌∙◌, arith}
use Rattle.std.specs.Prelude.{FitsSigned}
use Rattle.std.specs.Int.{w64}
use Rattle.wk_bytes.specs.Short.{short, short_signed}
use Rattle.wk_bytes.specs.ShortLaws.{short-some, short-few, short_signed-some, signed_few}

-- a loop over the bytes of an integer that starts at a place has room for the next
pub room : (n rest at end : ℕ) → n < 2 ^ 32 → end + length (short rest) ≡ at + length (short n) → end < at + 5
room n rest at end fits counted = omega (arith, short-some rest, short-few 32 n (omega arith) fits)

pub signed_room : (n rest : ℤ) (at end : ℕ) → FitsSigned w64 n → end + length (short_signed rest) ≡ at + length (short_signed n) → end < at + 10
signed_room n rest at end fits counted = omega (arith, short_signed-some rest, signed_few n fits)

-- one token more: what is behind the output, and then in the buffer, are all bytes so far
pub token_more : (before after on over bytes all : List ℕ) → before ++ on ≡ all → after ++ over ≡ (before ++ on) ++ bytes → after ++ over ≡ all ++ bytes
token_more before after on over bytes all so_far put = put ∙ ap (λ (b : List ℕ). b ++ bytes) so_far
