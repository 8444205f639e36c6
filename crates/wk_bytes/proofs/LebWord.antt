-- Eight bytes of an integer as a word, the lowest first: whether more come after each, and their seven bits put side by side.
use Rattle.std.proofs.Common.{◌≡◌, ℕ, ◌+◌, ◌-◌, ◌*◌, ◌/◌, ◌^◌, ◌<◌, ◌≤◌, ℤ, pos, negsuc, ◌+ℤ◌, ◌*ℤ◌, List, [], ◌∷◌, ◌++◌, get_or, length, take, bit_and, refl}
use Rattle.std.proofs.Common.{sym, ap, ◌∙◌, arith}
use Rattle.std.specs.Prelude.{FitsSigned}
use Rattle.std.specs.Int.{w64}
use Rattle.std.proofs.lemmas.Int.{ints}
use Rattle.std.proofs.lemmas.Nat.{and_block, and_le_l, and_le_r, and_mask}
use Rattle.byteorder.specs.Endian.{little_number}
use Rattle.wk_bytes.specs.Leb.{SpellsS, IsLastS, IsSignedOf, joinU, joinS}
use Rattle.wk_bytes.specs.LebLaws.{IsBytes, more_spells}

-- the word of these bytes
abbrev pub word_of : ℕ → ℕ → ℕ → ℕ → ℕ → ℕ → ℕ → ℕ → ℕ
word_of a b c d e f g h = a + 256 * (b + 256 * (c + 256 * (d + 256 * (e + 256 * (f + 256 * (g + 256 * h))))))

-- the number of these bytes, seven bits of each
abbrev pub joined_of : ℕ → ℕ → ℕ → ℕ → ℕ → ℕ → ℕ → ℕ → ℕ
joined_of a b c d e f g h = joinU a (joinU b (joinU c (joinU d (joinU e (joinU f (joinU g h))))))

and_lanes : (k r a s b : ℕ) → r < 2 ^ k → s < 2 ^ k → bit_and (r + 2 ^ k * a) (s + 2 ^ k * b) ≡ bit_and r s + 2 ^ k * bit_and a b
and_lanes k r a s b hr hs =
    let left : r + 2 ^ k * a ≡ a * 2 ^ k + r = omega arith in
    let right : s + 2 ^ k * b ≡ b * 2 ^ k + s = omega arith in
    let blocks = and_block k a b r s hr hs in
    rw (left, right, blocks) (omega arith)

low_8 : (b c : ℕ) → b < 256 → bit_and (b + 256 * c) 255 ≡ b
low_8 b c small = and_mask (b + 256 * c) 8 ∙ omega arith

low_16 : (b c : ℕ) → b < 65536 → bit_and (b + 65536 * c) 65535 ≡ b
low_16 b c small = and_mask (b + 65536 * c) 16 ∙ omega arith

-- the second, fourth, sixth and eighth byte
even_bytes : (b c d e f g h : ℕ) → b < 256 → c < 256 → d < 256 → e < 256 → f < 256 → g < 256 → h < 256
    → bit_and (b + 256 * (c + 256 * (d + 256 * (e + 256 * (f + 256 * (g + 256 * h)))))) 0x00FF00FF00FF00FF ≡ b + 65536 * (d + 65536 * (f + 65536 * h))
even_bytes b c d e f g h fb fc fd fe ff fg fh =
    let lanes : b + 256 * (c + 256 * (d + 256 * (e + 256 * (f + 256 * (g + 256 * h)))))
    ≡ b + 256 * c + 65536 * (d + 256 * e + 65536 * (f + 256 * g + 65536 * (h + 256 * 0))) = omega arith in
    let first = and_lanes 16 (b + 256 * c) (d + 256 * e + 65536 * (f + 256 * g + 65536 * (h + 256 * 0))) 255 (255 + 65536 * (255 + 65536 * 255))
    (omega arith) (omega arith) in
    let second = and_lanes 16 (d + 256 * e) (f + 256 * g + 65536 * (h + 256 * 0)) 255 (255 + 65536 * 255) (omega arith) (omega arith) in
    let third = and_lanes 16 (f + 256 * g) (h + 256 * 0) 255 255 (omega arith) (omega arith) in
    rw (lanes, first, second, third, low_8 b c fb, low_8 d e fd, low_8 f g ff, low_8 h 0 fh) refl

-- seven bits of each byte, in twos
pub in_twos : (a b c d e f g h word : ℕ) → a < 128 → b < 128 → c < 128 → d < 128 → e < 128 → f < 128 → g < 128 → h < 128 → word ≡ word_of a b c d e f g h
    → word - 128 * bit_and (word / 256) 0x00FF00FF00FF00FF ≡ joinU a b + 65536 * (joinU c d + 65536 * (joinU e f + 65536 * joinU g h))
in_twos a b c d e f g h word fa fb fc fd fe ff fg fh is =
    let after : word / 256 ≡ b + 256 * (c + 256 * (d + 256 * (e + 256 * (f + 256 * (g + 256 * h))))) = omega arith in
    let even : bit_and (word / 256) 0x00FF00FF00FF00FF ≡ b + 65536 * (d + 65536 * (f + 65536 * h)) =
    ap (λ (n : ℕ). bit_and n 0x00FF00FF00FF00FF) after ∙ even_bytes b c d e f g h (omega arith) (omega arith) (omega arith) (omega arith) (omega arith)
    (omega arith) (omega arith)
    in
    omega (arith, even, is)

-- in fours
pub in_fours : (p q r s twos : ℕ) → p < 16384 → q < 16384 → r < 16384 → s < 16384 → twos ≡ p + 65536 * (q + 65536 * (r + 65536 * s))
    → twos - 49152 * bit_and (twos / 65536) 0x0000FFFF0000FFFF ≡ p + 16384 * q + 2 ^ 32 * (r + 16384 * s)
in_fours p q r s twos fp fq fr fs is =
    let after : twos / 65536 ≡ q + 65536 * r + 2 ^ 32 * (s + 65536 * 0) = omega arith in
    let lanes = and_lanes 32 (q + 65536 * r) (s + 65536 * 0) 65535 65535 (omega arith) (omega arith) in
    let even : bit_and (twos / 65536) 0x0000FFFF0000FFFF ≡ q + 2 ^ 32 * s =
    ap (λ (n : ℕ). bit_and n 0x0000FFFF0000FFFF) after ∙ lanes ∙ rw (low_16 q r (omega arith), low_16 s 0 (omega arith)) refl in
    omega (arith, even, is)

-- and all eight
pub in_eights : (u v fours : ℕ) → u < 2 ^ 28 → v < 2 ^ 28 → fours ≡ u + 2 ^ 32 * v → fours - 4026531840 * (fours / 2 ^ 32) ≡ u + 2 ^ 28 * v
in_eights u v fours fu fv is =
    let after : fours / 2 ^ 32 ≡ v = omega arith in
    omega (arith, after, is)

-- more come after the first of these bytes, and after each of the others
first_more : (a rest mask : ℕ) → a < 256 → bit_and (a + 256 * rest) (128 + 256 * mask) ≡ 128 + 256 * mask → (128 ≤ a) × (bit_and rest mask ≡ mask)
first_more a rest mask fits high =
    let bits : 128 + 256 * mask ≡ bit_and a 128 + 256 * bit_and rest mask = sym high ∙ and_lanes 8 a rest 128 mask fits (omega arith) in (
      omega (arith, bits, and_le_l a 128, and_le_r a 128),
      omega (arith, bits, and_le_l a 128, and_le_r a 128),
    )

-- more come after each byte
pub all_more : (a b c d e f g h word : ℕ) → a < 256 → b < 256 → c < 256 → d < 256 → e < 256 → f < 256 → g < 256 → h < 256 → word ≡ word_of a b c d e f g h
    → bit_and word 0x8080808080808080 ≡ 0x8080808080808080
    → (128 ≤ a) × (128 ≤ b) × (128 ≤ c) × (128 ≤ d) × (128 ≤ e) × (128 ≤ f) × (128 ≤ g) × (128 ≤ h)
all_more a b c d e f g h word fa fb fc fd fe ff fg fh is high =
    let at_a = first_more a (b + 256 * (c + 256 * (d + 256 * (e + 256 * (f + 256 * (g + 256 * h)))))) 0x80808080808080 fa
    (sym (ap (λ (n : ℕ). bit_and n 0x8080808080808080) is) ∙ high) in
    let at_b = first_more b (c + 256 * (d + 256 * (e + 256 * (f + 256 * (g + 256 * h))))) 0x808080808080 fb at_a.1 in
    let at_c = first_more c (d + 256 * (e + 256 * (f + 256 * (g + 256 * h)))) 0x8080808080 fc at_b.1 in
    let at_d = first_more d (e + 256 * (f + 256 * (g + 256 * h))) 0x80808080 fd at_c.1 in
    let at_e = first_more e (f + 256 * (g + 256 * h)) 0x808080 fe at_d.1 in
    let at_f = first_more f (g + 256 * h) 0x8080 ff at_e.1 in
    let at_g = first_more g h 128 fg at_f.1 in
    let last : 128 ≤ h = omega (arith, at_g.1, and_le_l h 128) in
    (at_a.0, at_b.0, at_c.0, at_d.0, at_e.0, at_f.0, at_g.0, last)

word_less : (a b c d e f g h word : ℕ) → word ≡ word_of (128 + a) (128 + b) (128 + c) (128 + d) (128 + e) (128 + f) (128 + g) (128 + h)
    → word - 0x8080808080808080 ≡ word_of a b c d e f g h
word_less a b c d e f g h word is = omega (arith, is)

back : (n : ℕ) → 128 ≤ n → 128 + (n - 128) ≡ n
back n more = omega arith

eight_value : (a b c d e f g h low : ℕ) (z : ℤ) → low ≡ joined_of a b c d e f g h
    → pos low +ℤ (pos (2 ^ 56) *ℤ z) ≡ joinS a (joinS b (joinS c (joinS d (joinS e (joinS f (joinS g (joinS h z)))))))
eight_value a b c d e f g h low (pos n) is = omega (arith, ints)
eight_value a b c d e f g h low (negsuc n) is = omega (arith, ints)

-- what the bits of eight bytes spell before others
abbrev pub EightMore : List ℕ → ℕ → Type 0
EightMore bytes low = (low < 2 ^ 56) × ((rest : List ℕ) (z : ℤ) → SpellsS 8 rest z → SpellsS 64 (take 8 bytes ++ rest) (pos low +ℤ (pos (2 ^ 56) *ℤ z)))

pub eight_more : (bytes : List ℕ) (word low : ℕ) → IsBytes bytes → 8 ≤ length bytes → word ≡ little_number 8 bytes
    → bit_and word 0x8080808080808080 ≡ 0x8080808080808080
    → ((a b c d e f g h : ℕ) → a < 128 → b < 128 → c < 128 → d < 128 → e < 128 → f < 128 → g < 128 → h < 128
    → word - 0x8080808080808080 ≡ word_of a b c d e f g h → low ≡ joined_of a b c d e f g h)
    → EightMore bytes low
eight_more (a ∷ b ∷ c ∷ d ∷ e ∷ f ∷ g ∷ h ∷ behind) word low fits long is high joined =
    let fa : a < 256 = fits 0 in
    let fb : b < 256 = fits 1 in
    let fc : c < 256 = fits 2 in
    let fd : d < 256 = fits 3 in
    let fe : e < 256 = fits 4 in
    let ff : f < 256 = fits 5 in
    let fg : g < 256 = fits 6 in
    let fh : h < 256 = fits 7 in
    let word_is : word ≡ word_of a b c d e f g h = omega (arith, is) in
    let m = all_more a b c d e f g h word fa fb fc fd fe ff fg fh word_is high in
    let less : word - 0x8080808080808080 ≡ word_of (a - 128) (b - 128) (c - 128) (d - 128) (e - 128) (f - 128) (g - 128) (h - 128) =
    word_less (a - 128) (b - 128) (c - 128) (d - 128) (e - 128) (f - 128) (g - 128) (h - 128) word
    (rw (back a m.0, back b m.1, back c m.2, back d m.3, back e m.4, back f m.5, back g m.6, back h m.7) word_is)
    in
    let low_is : low ≡ joined_of (a - 128) (b - 128) (c - 128) (d - 128) (e - 128) (f - 128) (g - 128) (h - 128) =
    joined (a - 128) (b - 128) (c - 128) (d - 128) (e - 128) (f - 128) (g - 128) (h - 128) (omega arith) (omega arith) (omega arith) (omega arith)
    (omega arith) (omega arith) (omega arith) (omega arith) less
    in (
      omega (arith, low_is),
      λ rest z s.
          let eighth : SpellsS 15 (h ∷ rest) (joinS (h - 128) z) = more_spells IsLastS joinS 15 h rest z _ m.7 fh (omega arith) s refl in (
            m.0,
            fa,
            omega arith,
            _,
            (
              m.1,
              fb,
              omega arith,
              _,
              (
                m.2,
                fc,
                omega arith,
                _,
                (
                  m.3,
                  fd,
                  omega arith,
                  _,
                  (m.4, fe, omega arith, _, (m.5, ff, omega arith, _, (m.6, fg, omega arith, _, eighth, refl), refl), refl),
                  refl,
                ),
                refl,
              ),
              refl,
            ),
            eight_value (a - 128) (b - 128) (c - 128) (d - 128) (e - 128) (f - 128) (g - 128) (h - 128) low z low_is,
          ),
    )
eight_more _ word low fits long is high joined = absurd (omega arith)

-- a number of eight bits above fits
pub fits_above : (low : ℕ) (h : ℤ) → low < 2 ^ 56 → IsSignedOf 8 h → FitsSigned w64 (pos low +ℤ (pos (2 ^ 56) *ℤ h))
fits_above low (pos n) small fits = record { sfits = omega arith }
fits_above low (negsuc n) small fits = omega (arith, ints)

pub front_nine : (bytes : List ℕ) → 10 ≤ length bytes → take 9 bytes ≡ take 8 bytes ++ (get_or bytes 8 0 ∷ [])
front_nine (a ∷ b ∷ c ∷ d ∷ e ∷ f ∷ g ∷ h ∷ i ∷ rest) long = refl
front_nine _ long = absurd (omega arith)

pub front_ten : (bytes : List ℕ) → 10 ≤ length bytes → take 10 bytes ≡ take 8 bytes ++ (get_or bytes 8 0 ∷ get_or bytes 9 0 ∷ [])
front_ten (a ∷ b ∷ c ∷ d ∷ e ∷ f ∷ g ∷ h ∷ i ∷ j ∷ rest) long = refl
front_ten _ long = absurd (omega arith)
