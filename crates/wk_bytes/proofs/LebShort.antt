-- Integers of a few bytes, byte by byte.
use Rattle.std.proofs.Common.{◌≡◌, ℕ, ◌+◌, ◌-◌, ◌*◌, ◌^◌, ◌<◌, ◌≤◌, ℤ, pos, negsuc, ◌+ℤ◌, ◌-ℤ◌, ◌*ℤ◌, ◌≤ℤ◌, ◌⊎◌, inl, inr, List, [], ◌∷◌, ◌++◌, get_or, length}
use Rattle.std.proofs.Common.{length-drop, take, drop, Ok, refl, sym, ap, ◌∙◌, arith}
use Rattle.std.proofs.lemmas.Bool.{cases_lt}
use Rattle.std.proofs.lemmas.List.{take-append-drop}
use Rattle.std.proofs.lemmas.Int.{ints}
use Rattle.std.proofs.Math.Nat.{pow-le-pow_right}
use Rattle.std.proofs.Math.Seq.{take-add, take-length}
use Rattle.wk_bytes.specs.Leb.{SpellsU, SpellsS, IsLastS, IsSignedOf, joinU, joinS, uint_at, sint_at}
use Rattle.wk_bytes.specs.LebLaws.{more_spells, uint_again, sint_again}

-- the first five bytes
pub first_five : (bytes : List ℕ) → 5 ≤ length bytes → take 5 bytes
    ≡ get_or bytes 0 0 ∷ get_or bytes 1 0 ∷ get_or bytes 2 0 ∷ get_or bytes 3 0 ∷ get_or bytes 4 0 ∷ []
first_five (a ∷ b ∷ c ∷ d ∷ e ∷ rest) long = refl
first_five _ long = absurd (omega arith)

-- the first four of them
pub first_four : (bytes : List ℕ) → 5 ≤ length bytes → take 4 bytes ≡ get_or bytes 0 0 ∷ get_or bytes 1 0 ∷ get_or bytes 2 0 ∷ get_or bytes 3 0 ∷ []
first_four (a ∷ b ∷ c ∷ d ∷ e ∷ rest) long = refl
first_four _ long = absurd (omega arith)

-- ---- unsigned

-- a spelling in front is read, and what is behind it is left
pub front_u32 : (k : ℕ) (bytes : List ℕ) (n : ℕ) → SpellsU 32 (take k bytes) n → uint_at 32 bytes ≡ Ok (n, drop k bytes)
front_u32 k bytes n s = ap (uint_at 32) (sym (take-append-drop k bytes)) ∙ uint_again 32 (take k bytes) n (drop k bytes) s

pub four_u32 : (a b c d : ℕ) → 128 ≤ a → 128 ≤ b → 128 ≤ c → a < 256 → b < 256 → c < 256 → d < 128
    → SpellsU 32 (a ∷ b ∷ c ∷ d ∷ []) (joinU (a - 128) (joinU (b - 128) (joinU (c - 128) d)))
four_u32 a b c d ha hb hc fa fb fc fd = (ha, fa, omega arith, _, (hb, fb, omega arith, _, (hc, fc, omega arith, _, (fd, omega arith, refl), refl), refl), refl)

pub five_u32 : (a b c d e : ℕ) → 128 ≤ a → 128 ≤ b → 128 ≤ c → 128 ≤ d → a < 256 → b < 256 → c < 256 → d < 256 → e < 16
    → SpellsU 32 (a ∷ b ∷ c ∷ d ∷ e ∷ []) (joinU (a - 128) (joinU (b - 128) (joinU (c - 128) (joinU (d - 128) e))))
five_u32 a b c d e ha hb hc hd fa fb fc fd fe =
    (ha, fa, omega arith, _, (hb, fb, omega arith, _, (hc, fc, omega arith, _, (hd, fd, omega arith, _, (omega arith, fe, refl), refl), refl), refl), refl)

-- ---- signed: what the bytes spell without a sign, less `over`, which is 0 or the least number with more bits

pub front_signed : (N k : ℕ) (bytes : List ℕ) (z : ℤ) → SpellsS N (take k bytes) z → sint_at N bytes ≡ Ok (z, drop k bytes)
front_signed N k bytes z s = ap (sint_at N) (sym (take-append-drop k bytes)) ∙ sint_again N (take k bytes) z (drop k bytes) s

-- half of what N bits count to
half_power : (k N : ℕ) → k < N → 2 ^ k ≤ 2 ^ (N - 1)
half_power k N lt =
    let le : k ≤ N - 1 = omega arith in
    pow-le-pow_right (omega arith) le

-- a last byte of k + 1 bits at most
pub last_above : (k N x : ℕ) → k < N → x < 64 → x < 2 ^ k → SpellsS N (x ∷ []) (pos x -ℤ pos 0)
last_above k N x lt small fits = inl (small, omega (arith, half_power k N lt), omega (arith, ints))

pub last_below : (k N x : ℕ) → k < N → 64 ≤ x → x < 128 → 128 ≤ x + 2 ^ k → SpellsS N (x ∷ []) (pos x -ℤ pos 128)
last_below k N x lt big small fits = inr (big, small, omega (arith, half_power k N lt), refl)

more_signed : (N x : ℕ) (b : List ℕ) (h over : ℕ) → 128 ≤ x → x < 256 → 7 < N → SpellsS (N - 7) b (pos h -ℤ pos over)
    → SpellsS N (x ∷ b) (pos (joinU (x - 128) h) -ℤ pos (128 * over))
more_signed N x b h over high small wide s =
    more_spells IsLastS joinS N x b (pos h -ℤ pos over) (pos (joinU (x - 128) h) -ℤ pos (128 * over)) high small wide s (omega (arith, ints))

-- from the last byte to all of them
pub two_signed : (N a b over : ℕ) → 128 ≤ a → a < 256 → 7 < N → SpellsS (N - 7) (b ∷ []) (pos b -ℤ pos over)
    → SpellsS N (a ∷ b ∷ []) (pos (joinU (a - 128) b) -ℤ pos (128 * over))
two_signed N a b over ha fa wide s = more_signed N a (b ∷ []) b over ha fa wide s

pub three_signed : (N a b c over : ℕ) → 128 ≤ a → 128 ≤ b → a < 256 → b < 256 → 14 < N → SpellsS (N - 7 - 7) (c ∷ []) (pos c -ℤ pos over)
    → SpellsS N (a ∷ b ∷ c ∷ []) (pos (joinU (a - 128) (joinU (b - 128) c)) -ℤ pos (128 * (128 * over)))
three_signed N a b c over ha hb fa fb wide s =
    more_signed N a (b ∷ c ∷ []) (joinU (b - 128) c) (128 * over) ha fa (omega arith) (two_signed (N - 7) b c over hb fb (omega arith) s)

pub four_signed : (N a b c d over : ℕ) → 128 ≤ a → 128 ≤ b → 128 ≤ c → a < 256 → b < 256 → c < 256 → 21 < N
    → SpellsS (N - 7 - 7 - 7) (d ∷ []) (pos d -ℤ pos over)
    → SpellsS N (a ∷ b ∷ c ∷ d ∷ []) (pos (joinU (a - 128) (joinU (b - 128) (joinU (c - 128) d))) -ℤ pos (128 * (128 * (128 * over))))
four_signed N a b c d over ha hb hc fa fb fc wide s =
    more_signed N a (b ∷ c ∷ d ∷ []) (joinU (b - 128) (joinU (c - 128) d)) (128 * (128 * over)) ha fa (omega arith)
    (three_signed (N - 7) b c d over hb hc fb fc (omega arith) s)

pub five_signed : (N a b c d e over : ℕ) → 128 ≤ a → 128 ≤ b → 128 ≤ c → 128 ≤ d → a < 256 → b < 256 → c < 256 → d < 256 → 28 < N
    → SpellsS (N - 7 - 7 - 7 - 7) (e ∷ []) (pos e -ℤ pos over)
    → SpellsS N (a ∷ b ∷ c ∷ d ∷ e ∷ [])
    (pos (joinU (a - 128) (joinU (b - 128) (joinU (c - 128) (joinU (d - 128) e)))) -ℤ pos (128 * (128 * (128 * (128 * over)))))
five_signed N a b c d e over ha hb hc hd fa fb fc fd wide s =
    more_signed N a (b ∷ c ∷ d ∷ e ∷ []) (joinU (b - 128) (joinU (c - 128) (joinU (d - 128) e))) (128 * (128 * (128 * over))) ha fa (omega arith)
    (four_signed (N - 7) b c d e over hb hc hd fb fc fd (omega arith) s)

-- a last byte of k + 1 bits, of the one sign or the other
pub last_either_above : (k N x : ℕ) → k < N → x < 64 → (x < 2 ^ k) ⊎ (128 ≤ x + 2 ^ k) → SpellsS N (x ∷ []) (pos x -ℤ pos 0)
last_either_above k N x lt small (inl fits) = last_above k N x lt small fits
last_either_above k N x lt small (inr fits) = last_above k N x lt small (omega arith)

-- a power of two above 64 is 128 at least
more_than_half : (k x : ℕ) → x < 2 ^ k → 64 ≤ x → 128 ≤ 2 ^ k
more_than_half k x fits big = elim (cases_lt k 7) [
  | inl less ↦
      let le : k ≤ 6 = omega arith in
      let small : 2 ^ k ≤ 2 ^ 6 = pow-le-pow_right (omega arith) le in
      absurd (omega arith)
  | inr wide ↦
      let more : 2 ^ 7 ≤ 2 ^ k = pow-le-pow_right (omega arith) wide in
      omega arith
]

pub last_either_below : (k N x : ℕ) → k < N → 64 ≤ x → x < 128 → (x < 2 ^ k) ⊎ (128 ≤ x + 2 ^ k) → SpellsS N (x ∷ []) (pos x -ℤ pos 128)
last_either_below k N x lt big small (inl fits) = last_below k N x lt big small (omega (arith, more_than_half k x fits big))
last_either_below k N x lt big small (inr fits) = last_below k N x lt big small fits

-- ---- five bytes before others

-- what seven bits join, five times
abbrev pub five_below : ℕ → ℕ → ℕ → ℕ → ℕ → ℤ → ℤ
five_below a b c d e h = joinS (a - 128) (joinS (b - 128) (joinS (c - 128) (joinS (d - 128) (joinS (e - 128) h))))

pub five_more : (a b c d e : ℕ) (rest : List ℕ) (h v : ℤ) → 128 ≤ a → 128 ≤ b → 128 ≤ c → 128 ≤ d → 128 ≤ e → a < 256 → b < 256 → c < 256 → d < 256 → e < 256
    → SpellsS 29 rest h → v ≡ five_below a b c d e h → SpellsS 64 (a ∷ b ∷ c ∷ d ∷ e ∷ rest) v
five_more a b c d e rest h v ha hb hc hd he fa fb fc fd fe s is =
    let s5 : SpellsS 36 (e ∷ rest) (joinS (e - 128) h) = more_spells IsLastS joinS 36 e rest h _ he fe (omega arith) s refl in
    (ha, fa, omega arith, _, (hb, fb, omega arith, _, (hc, fc, omega arith, _, (hd, fd, omega arith, _, s5, refl), refl), refl), is)

-- five bytes less the high bit of the fifth, below `high`
pub five_value : (a b c d e low : ℕ) (high : ℤ) → 128 ≤ a → 128 ≤ b → 128 ≤ c → 128 ≤ d → 128 ≤ e
    → low ≡ joinU (a - 128) (joinU (b - 128) (joinU (c - 128) (joinU (d - 128) e))) - 2 ^ 35
    → (high *ℤ pos (2 ^ 35)) +ℤ pos low ≡ five_below a b c d e high
five_value a b c d e low (pos n) ha hb hc hd he is = omega (arith, ints)
five_value a b c d e low (negsuc n) ha hb hc hd he is = omega (arith, ints)

pub signed_29 : (h : ℤ) → IsSignedOf 29 h → (negsuc 268435455 ≤ℤ h) × (h ≤ℤ pos 268435455)
signed_29 (pos n) fits = (omega (arith, ints), omega (arith, ints))
signed_29 (negsuc n) fits = (omega (arith, ints), omega (arith, ints))

-- a front of the bytes after the first five, with these before it
pub after_five : (bytes rest : List ℕ) (k : ℕ) → 5 ≤ length bytes → rest ≡ take (length bytes - 5) (drop 5 bytes)
    → take (5 + k) bytes ≡ get_or bytes 0 0 ∷ get_or bytes 1 0 ∷ get_or bytes 2 0 ∷ get_or bytes 3 0 ∷ get_or bytes 4 0 ∷ take k rest
after_five bytes rest k long is =
    let all : length bytes - 5 ≡ length (drop 5 bytes) = sym (length-drop 5 bytes) in
    let same : rest ≡ drop 5 bytes = is ∙ ap (λ (n : ℕ). take n (drop 5 bytes)) all ∙ take-length (drop 5 bytes) in
    take-add 5 k bytes ∙ ap (λ (b : List ℕ). b ++ take k (drop 5 bytes)) (first_five bytes long)
    ∙ ap (λ (b : List ℕ). get_or bytes 0 0 ∷ get_or bytes 1 0 ∷ get_or bytes 2 0 ∷ get_or bytes 3 0 ∷ get_or bytes 4 0 ∷ take k b) (sym same)
