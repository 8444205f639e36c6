-- What a word looks like.
use Rattle.std.proofs.Common.{◌≡◌, ◌≢◌, ◌⊎◌, ◌∙◌, ◌==◌, ℕ, zero, suc, Bool, true, false, Option, Some, None, List, [], ◌∷◌, ◌++◌, refl, sym, subst, ap, inl, inr, arith}
use Rattle.std.specs.Prelude.{slice_get}
use Rattle.std.specs.Str.{bytes_eq, chars, IsUtf8, encode_utf8_all}
use Rattle.std.proofs.lemmas.Str.{IsUtf8-drop, IsCharBoundary-after_ascii, chars-encodes}
use Rattle.std.proofs.lemmas.Bool.Decides.{nat_tests}
use Rattle.clap.specs.Lexer.{long_of, short_of, name_and_value}
use Rattle.clap.specs.Walk.{Text}
use Rattle.clap.proofs.CutLemmas.{Lacks}
use Rattle.clap.proofs.LexerLemmas.{name_and_value-at, name_and_value-without}
use Rattle.wk_command_line.specs.CommandLine.{dashes, is_free, option_word}

pub same_number : (x y : ℕ) → (x == y) ≡ true → x ≡ y
same_number x y e = grind (arith, nat_tests)

-- the word is free, `--`, an option, or a bundle of short options
pub record IsShort (word : Text) : Type 0 where
  pub first : ℕ
  pub rest : Text
  pub is : word ≡ 45 ∷ first ∷ rest
  pub apart : (first == 45) ≡ false

pub record IsLong (word : Text) : Type 0 where
  pub first : ℕ
  pub rest : Text
  pub is : word ≡ 45 ∷ 45 ∷ first ∷ rest

abbrev pub Look : Text → Type 0
Look word = (is_free word ≡ true) ⊎ ((word ≡ dashes) ⊎ (IsLong word ⊎ IsShort word))

pub look : (word : Text) → Look word
look [] = inl refl
look (x ∷ []) = inl refl
look (x ∷ y ∷ rest) = go (x == 45) refl (y == 45) refl rest
  where
    go : (b : Bool) → (x == 45) ≡ b → (d : Bool) → (y == 45) ≡ d → (rest : Text) → Look (x ∷ y ∷ rest)
    go false e d f rest = inl (rw e refl)
    go true e false f rest = inr (inr (inr (record { first = y; rest = rest; is = ap (λ z. z ∷ y ∷ rest) (same_number x 45 e); apart = f })))
    go true e true f [] = inr (inl (rw (same_number x 45 e, same_number y 45 f) refl))
    go true e true f (z ∷ rest) = inr (inr (inl (record { first = z; rest = rest; is = rw (same_number x 45 e, same_number y 45 f) refl })))

pub free_plain : (word : Text) → is_free word ≡ true → (bytes_eq word dashes ≡ false) × (long_of word ≡ None) × (short_of word ≡ None)
free_plain [] h = (refl, refl, refl)
free_plain (x ∷ []) h = go (x == 45) refl
  where
    go : (b : Bool) → (x == 45) ≡ b → (bytes_eq (x ∷ []) dashes ≡ false) × (long_of (x ∷ []) ≡ None) × (short_of (x ∷ []) ≡ None)
    go true e = (rw e refl, rw e refl, rw e refl)
    go false e = (rw e refl, rw e refl, rw e refl)
free_plain (x ∷ y ∷ rest) h = go (x == 45) refl
  where
    go : (b : Bool) → (x == 45) ≡ b → (bytes_eq (x ∷ y ∷ rest) dashes ≡ false) × (long_of (x ∷ y ∷ rest) ≡ None) × (short_of (x ∷ y ∷ rest) ≡ None)
    go true e = let bad : false ≡ true = rw e at h in cc
    go false e = (rw e refl, rw e refl, rw e refl)

-- ---- options

Lacks-cons : (c x : ℕ) (xs : Text) → x ≢ c → Lacks c xs → Lacks c (x ∷ xs)
Lacks-cons c x xs ne h zero lt = ne
Lacks-cons c x xs ne h (suc i) lt = h i (omega arith)

-- a text with no `=`, or what precedes the first one and what follows it
pub record HasValue (text : Text) : Type 0 where
  pub name : Text
  pub value : Text
  pub is : text ≡ name ++ 61 ∷ value
  pub lacks : Lacks 61 name

parts : (text : Text) → Lacks 61 text ⊎ HasValue text
parts [] = inl (λ i lt. absurd (omega arith))
parts (x ∷ xs) = go (x == 61) refl (parts xs)
  where
    go : (b : Bool) → (x == 61) ≡ b → Lacks 61 xs ⊎ HasValue xs → Lacks 61 (x ∷ xs) ⊎ HasValue (x ∷ xs)
    go true e h = inr (record { name = []; value = xs; is = ap (λ z. z ∷ xs) (same_number x 61 e); lacks = λ i lt. absurd (omega arith) })
    go false e (inl l) = inl (Lacks-cons 61 x xs (grind (arith, nat_tests)) l)
    go false e (inr h) = inr (record {
      name = x ∷ h.name;
      value = h.value;
      is = ap (λ t. x ∷ t) h.is;
      lacks = Lacks-cons 61 x h.name (grind (arith, nat_tests)) h.lacks;
    })

-- an option is `--name` or `--name=value`
pub record IsOption (word : Text) : Type 0 where
  pub name : Text
  pub value : Option Text
  pub apart : bytes_eq word dashes ≡ false
  pub long : long_of word ≡ Some (name, value)

abbrev pub spelled : Text → Option Text → Text
spelled name None = option_word name
spelled name (Some value) = option_word name ++ 61 ∷ value

pub long_option : (word : Text) → IsLong word → (o : IsOption word) × (word ≡ spelled o.name o.value)
long_option word l = elim (parts (l.first ∷ l.rest)) [
  | inl lacks ↦ (
    record {
      name = l.first ∷ l.rest;
      value = None;
      apart = rw l.is refl;
      long = rw l.is (ap (λ (p : Text × Option Text). Some p) (name_and_value-without (l.first ∷ l.rest) lacks));
    },
    l.is,
  )
  | inr h ↦ (
    record {
      name = h.name;
      value = Some h.value;
      apart = rw l.is refl;
      long = rw l.is (ap (λ (p : Text × Option Text). Some p) (ap name_and_value h.is ∙ name_and_value-at h.name h.value h.lacks));
    },
    l.is ∙ ap option_word h.is,
  )
]

-- ---- bundles of short options

some_char : (flags : Text) → IsUtf8 flags → (x : ℕ) (xs : Text) → flags ≡ x ∷ xs → (c : ℕ) × (slice_get (chars flags) 0 ≡ Some c)
some_char flags u x xs is = go u.0 refl
  where
    go : (cs : List ℕ) → u.0 ≡ cs → (c : ℕ) × (slice_get (chars flags) 0 ≡ Some c)
    go [] e = let bad : [] ≡ x ∷ xs = ap encode_utf8_all (sym e) ∙ (u.1.1 ∙ is) in cc
    go (c ∷ cs) e =
        let all : chars flags ≡ c ∷ cs = ap chars (sym u.1.1) ∙ (chars-encodes u.0 u.1.0 ∙ e) in
        (c, ap (λ (t : List ℕ). slice_get t 0) all)

pub short_char : (word : Text) → IsUtf8 word → (h : IsShort word) → (c : ℕ) × (slice_get (chars (h.first ∷ h.rest)) 0 ≡ Some c)
short_char word u h =
    let whole : IsUtf8 (45 ∷ h.first ∷ h.rest) = subst IsUtf8 h.is u in
    let flags : IsUtf8 (h.first ∷ h.rest) = IsUtf8-drop (45 ∷ h.first ∷ h.rest) 1 whole (IsCharBoundary-after_ascii (45 ∷ h.first ∷ h.rest) 0 whole (omega arith) (omega arith)) in
    some_char (h.first ∷ h.rest) flags h.first h.rest refl
