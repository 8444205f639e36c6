-- Numbers in decimal.
use Rattle.std.proofs.Common.{◌≡◌, ◌&&◌, ◌<◌, ◌^◌, ℕ, nat_lt, true, false, List, [], ◌∷◌, Option, Some, None, Result, Ok, Err, refl, sym, ap, subst}
use Rattle.std.proofs.Common.{◌∙◌, arith}
use Rattle.std.specs.Prelude.{decimal}
use Rattle.std.specs.Str.{IsUtf8, bytes_eq}
use Rattle.std.specs.Str.Parse.{AllDigits, digits_value, ParsesUnsigned}
use Rattle.std.proofs.lemmas.Fmt.{IsAscii-decimal, decimal_is_IsNumeral, parse-decimal}
use Rattle.std.proofs.lemmas.Bool.{and_parts}
use Rattle.std.proofs.lemmas.Slice.Eq.{bytes_eq-Decides}
use Rattle.std.proofs.lemmas.Str.{IsUtf8-from_ascii}
use Rattle.std.specs.List.{AllPass}
use Rattle.std.proofs.lemmas.List.Elements.{All-nil, All-cons}
use Rattle.std.proofs.lemmas.Str.Parse.{digit_from_value}
use Rattle.wk_edit.specs.Words.{is_graphic, number_of}
use Rattle.wk_edit.proofs.WordLaws.{tested_some}

-- a word that says a number is its text
pub number_told : (w : List ℕ) (n : ℕ) → number_of w ≡ Some n → (w ≡ decimal n) × (n < 2 ^ 32)
unfolding number_of
number_told w n e =
    let value = digits_value 10 w in
    let p = tested_some (nat_lt value (2 ^ 32) && bytes_eq w (decimal value)) value n e in
    let q = and_parts (nat_lt value (2 ^ 32)) (bytes_eq w (decimal value)) p.0 in
    let less : value < 2 ^ 32 = grind (arith, q.0) in
    ((bytes_eq-Decides w (decimal value)).0 q.1 ∙ ap decimal p.1, subst (λ (k : ℕ). k < 2 ^ 32) p.1 less)

-- the text of a number says it
pub number_said : (n : ℕ) → n < 2 ^ 32 → number_of (decimal n) ≡ Some n
unfolding number_of
number_said n small =
    let value = (decimal_is_IsNumeral n (omega (arith, small))).1 in
    let less : nat_lt n (2 ^ 32) ≡ true = grind (arith, small) in
    rw (value, less, (bytes_eq-Decides (decimal n) (decimal n)).1 refl) refl

-- a word that is the text of no number says none
number_none : (w : List ℕ) → ((n : ℕ) → w ≡ decimal n → n < 2 ^ 32 → ⊥) → None ≡ number_of w
number_none w never = by (number_of w) refl
  where
    by : (o : Option ℕ) → number_of w ≡ o → None ≡ o
    by None e = refl
    by (Some n) e = let t = number_told w n e in absurd (never n t.0 t.1)

-- nor does one that is no text
pub number_not_text : (w : List ℕ) → ¬ (IsUtf8 w) → None ≡ number_of w
number_not_text w bad = number_none w (λ n is small. bad (subst IsUtf8 (sym is) (IsUtf8-from_ascii (decimal n) (IsAscii-decimal n (omega (arith, small))))))

graphic_digits : (ds : List ℕ) → AllDigits 10 ds → AllPass is_graphic ds
graphic_digits [] h = All-nil (λ x. is_graphic x ≡ true)
graphic_digits (c ∷ cs) h =
    let range = digit_from_value c h.0 in
    All-cons (λ x. is_graphic x ≡ true) c cs (grind (arith, range.0, range.1)) (graphic_digits cs h.1)

pub graphic_number : (n : ℕ) → n < 2 ^ 32 → AllPass is_graphic (decimal n)
graphic_number n small = graphic_digits (decimal n) (decimal_is_IsNumeral n (omega (arith, small))).0.1

-- ---- what was parsed

module _ {E : Type 0} (w t : List ℕ) (r : Result ℕ E) (same : t ≡ w) (parsed : ParsesUnsigned 32 10 t r) where
  parsed_back : (n : ℕ) → w ≡ decimal n → n < 2 ^ 32 → r ≡ Ok n
  parsed_back n is small = parse-decimal 32 n t r small (omega (arith, small)) (same ∙ is) parsed

  pub number_not_parsed : (e : E) → r ≡ Err e → None ≡ number_of w
  number_not_parsed e fails = number_none w (λ n is small. let back = parsed_back n is small in absurd cc)

  -- what is parsed and written back otherwise
  pub number_other : (n : ℕ) (b : List ℕ) → r ≡ Ok n → b ≡ decimal n → bytes_eq w b ≡ false → None ≡ number_of w
  number_other n b found written differ = number_none w (λ m is small.
      let back = parsed_back m is small in
      let one : n ≡ m = cc in
      let equal : bytes_eq w b ≡ true = (bytes_eq-Decides w b).1 (is ∙ ap decimal (sym one) ∙ sym written) in
      absurd cc)

  pub number_parsed : (n : ℕ) (b : List ℕ) → r ≡ Ok n → b ≡ decimal n → bytes_eq w b ≡ true → Some n ≡ number_of w
  number_parsed n b found written equal =
      let is : w ≡ decimal n = (bytes_eq-Decides w b).0 equal ∙ written in
      sym (ap number_of is ∙ number_said n (fits r n found parsed))
    where
      fits : (q : Result ℕ E) (k : ℕ) → q ≡ Ok k → ParsesUnsigned 32 10 t q → k < 2 ^ 32
      fits (Ok x) k e p = let one : x ≡ k = cc in subst (λ (m : ℕ). m < 2 ^ 32) (sym p.1 ∙ one) p.0.1
      fits (Err d) k e p = absurd cc
