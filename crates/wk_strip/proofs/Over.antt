-- Bytes that are written over others.
use Rattle.std.proofs.Common.{◌≡◌, ℕ, ◌+◌, ◌-◌, ◌≤◌, List, ◌++◌, length, take, drop, refl, sym, ap, ◌∙◌, arith, append_assoc, length-append, length-drop}
use Rattle.std.proofs.lemmas.List.{drop-drop, drop-take, drop_at, take_at, length-take-le}
use Rattle.std.specs.List.{between}

-- lists that are the same from an offset on are the same from a later one on
later : (w e : ℕ) (xs ys : List ℕ) → w ≤ e → drop w xs ≡ drop w ys → drop e xs ≡ drop e ys
later w e xs ys le same =
    let place : e ≡ w + (e - w) = omega (arith, le) in
    let from : (zs : List ℕ) → drop e zs ≡ drop (e - w) (drop w zs) = λ zs. ap (λ (n : ℕ). drop n zs) place ∙ sym (drop-drop (e - w) w zs) in
    from xs ∙ ap (λ (zs : List ℕ). drop (e - w) zs) same ∙ sym (from ys)

-- Up to an offset f bytes are as they were, then others stand, and from an offset w on they are again as they were.
module _ (old middle now : List ℕ) (f w : ℕ) (some : f ≤ length old) (place : w ≡ f + length middle) (bytes : now ≡ take f old ++ (middle ++ drop w old)) where
  front_len : length (take f old ++ middle) ≡ w
  front_len = omega (arith, place, length-append (take f old) middle, length-take-le f old some)

  parted : now ≡ (take f old ++ middle) ++ drop w old
  parted = bytes ∙ sym (append_assoc (take f old) middle (drop w old))

  front_is : take w now ≡ take f old ++ middle
  front_is = ap (λ (b : List ℕ). take w b) parted ∙ take_at (take f old ++ middle) (drop w old) w front_len

  behind_is : drop w now ≡ drop w old
  behind_is = ap (λ (b : List ℕ). drop w b) parted ∙ drop_at (take f old ++ middle) (drop w old) w front_len

  pub middle_is : drop f (take w now) ≡ middle
  middle_is = ap (λ (b : List ℕ). drop f b) front_is ∙ drop_at (take f old) middle f (length-take-le f old some)

  pub over_len : w ≤ length old → length now ≡ length old
  over_len le = omega (arith, le, front_len, ap length parted, length-append (take f old ++ middle) (drop w old), length-drop w old)

  pub untouched : (i j : ℕ) → w ≤ i → between i j now ≡ between i j old
  untouched i j le = ap (λ (b : List ℕ). take (j - i) b) (later w i now old le behind_is)

  -- more is written behind the others
  pub over_more : (more new : List ℕ) (v : ℕ) → w ≤ v → new ≡ take w now ++ (more ++ drop v now) → new ≡ take f old ++ ((middle ++ more) ++ drop v old)
  over_more more new v le is =
      is ∙ ap (λ (b : List ℕ). b ++ (more ++ drop v now)) front_is ∙ ap (λ (b : List ℕ). (take f old ++ middle) ++ (more ++ b)) (later w v now old le behind_is)
      ∙ append_assoc (take f old) middle (more ++ drop v old) ∙ ap (λ (b : List ℕ). take f old ++ b) (sym (append_assoc middle more (drop v old)))

-- ---- a part of bytes

pub between-len : (b : List ℕ) (i j : ℕ) → j ≤ length b → length (between i j b) ≡ j - i
between-len b i j le = omega (arith, length-take-le (j - i) (drop i b) (omega (arith, le, length-drop i b)))

pub between-later : (b : List ℕ) (i j n : ℕ) → i + n ≤ j → drop n (between i j b) ≡ between (i + n) j b
between-later b i j n le =
    let parts : j - i ≡ n + (j - (i + n)) = omega (arith, le) in
    ap (λ (k : ℕ). drop n (take k (drop i b))) parts ∙ drop-take n (j - (i + n)) (drop i b) ∙ ap (λ (xs : List ℕ). take (j - (i + n)) xs) (drop-drop n i b)

-- what stands behind a front of it
pub between-rest : (b front rest : List ℕ) (i j k : ℕ) → j ≤ length b → i ≤ j → between i j b ≡ front ++ rest → k ≡ i + length front → rest ≡ between k j b
between-rest b front rest i j k within order parts place =
    let fits : i + length front ≤ j = omega (arith, order, between-len b i j within, ap length parts, length-append front rest) in
    sym (drop_at front rest (length front) refl) ∙ ap (λ (xs : List ℕ). drop (length front) xs) (sym parts) ∙ between-later b i j (length front) fits
    ∙ ap (λ (n : ℕ). between n j b) (sym place)
