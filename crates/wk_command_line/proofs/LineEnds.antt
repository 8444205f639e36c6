-- The rows at the end of a walk, by the line.
use Rattle.std.proofs.Common.{◌≡◌, ◌⊎◌, ◌∙◌, ◌||◌, Bool, true, false, not, Option, Some, None, List, [], ◌∷◌, refl, sym, subst, ap, inl, inr}
use Rattle.std.specs.Prelude.{find, if◌then◌else◌}
use Rattle.std.specs.Option.{option_or}
use Rattle.std.specs.List.{fold, list_all, list_any}
use Rattle.std.specs.Str.{bytes_eq}
use Rattle.std.proofs.lemmas.List.Folds.{find-append}
use Rattle.std.proofs.lemmas.Slice.Eq.{bytes_eq-Decides}
use Rattle.clap.proofs.SimpleLemmas.{is_false, is_nil}
use Rattle.clap.proofs.WalkLemmas.{both}
use Rattle.clap.specs.Walk.{Row, Rule, Text, default_rows, has_row, is_empty, more_values, reading_by, with_default}
use Rattle.clap.specs.Faults.{default_fault, defaults_fault, given_default_fault}
use Rattle.clap.specs.declared.parser.matches.ValueSource.TheVariants.{DefaultValue}
use Rattle.wk_command_line.specs.CommandLine.{Form, IsIn, NoneTwice, Piece, flag, joined, parted, operand, options_of, ArePiecesOf}
use Rattle.wk_command_line.proofs.Names.{ids}
use Rattle.wk_command_line.proofs.Rows.{at_none}
use Rattle.wk_command_line.proofs.LineWalks.{given_rows, word_rows}

abbrev pub find_in : Text → List Row → Option Row
find_in id rows = find (λ r. bytes_eq r.id id) rows

-- ---- defaults

abbrev default_row : Rule → List Text → Option Row
default_row a [] = None
default_row a (v ∷ vs) = Some (record { id = a.id; values = v ∷ vs; count = None; source = Some DefaultValue; reading = reading_by a })

abbrev pub own_default : Text → Rule → Option Row
own_default id a = if bytes_eq a.id id then default_row a a.defaults else None

abbrev pub default_in : Text → List Rule → Option Row
default_in id [] = None
default_in id (a ∷ c) = option_or (own_default id a) (default_in id c)

pub or_none : {X : Type 0} (o : Option X) → option_or o None ≡ o
or_none None = refl
or_none (Some x) = refl

or_assoc : {X : Type 0} (a b c : Option X) → option_or (option_or a b) c ≡ option_or a (option_or b c)
or_assoc None b c = refl
or_assoc (Some x) b c = refl

has_found : (id : Text) (rows : List Row) → has_row id rows ≡ true → (o : Option Row) → option_or (find_in id rows) o ≡ find_in id rows
has_found id [] h o = cc
has_found id (r ∷ rows) h o = go (bytes_eq r.id id) refl (λ e. has_found id rows e o)
  where
    go : (b : Bool) → bytes_eq r.id id ≡ b → (has_row id rows ≡ true → option_or (find_in id rows) o ≡ find_in id rows) → option_or (find_in id (r ∷ rows)) o ≡ find_in id (r ∷ rows)
    go true e rec = rw e refl
    go false e rec = rw e (rec (rw e at h))

default_find : (id : Text) (rows : List Row) (a : Rule) → find_in id (with_default rows a) ≡ option_or (find_in id rows) (own_default id a)
default_find id rows a = go (has_row a.id rows) refl
  where
    there : has_row a.id rows ≡ true → (b : Bool) → bytes_eq a.id id ≡ b → find_in id rows ≡ option_or (find_in id rows) (own_default id a)
    there has true e =
        let same : a.id ≡ id = (bytes_eq-Decides a.id id).0 e in
        sym (has_found id rows (subst (λ i. has_row i rows ≡ true) same has) (own_default id a))
    there has false e = rw e (sym (or_none (find_in id rows)))

    missing : has_row a.id rows ≡ false → (values : List Text)
        → find_in id (default_rows a.id (reading_by a) values rows) ≡ option_or (find_in id rows) (if bytes_eq a.id id then default_row a values else None)
    missing has [] = go (bytes_eq a.id id)
      where
        go : (b : Bool) → find_in id rows ≡ option_or (find_in id rows) (if b then None else None)
        go true = sym (or_none (find_in id rows))
        go false = sym (or_none (find_in id rows))
    missing has (v ∷ vs) =
        ap (find_in id) (at_none a.id (more_values DefaultValue (v ∷ vs)) (record { id = a.id; values = v ∷ vs; count = None; source = Some DefaultValue; reading = reading_by a } ∷ []) rows has)
        ∙ find-append (λ r. bytes_eq r.id id) rows (record { id = a.id; values = v ∷ vs; count = None; source = Some DefaultValue; reading = reading_by a } ∷ [])

    go : (b : Bool) → has_row a.id rows ≡ b → find_in id (with_default rows a) ≡ option_or (find_in id rows) (own_default id a)
    go true has = rw has (there has (bytes_eq a.id id) refl)
    go false has = rw has (missing has a.defaults)

pub final_find : (id : Text) (rows : List Row) (c : List Rule) → find_in id (fold with_default rows c) ≡ option_or (find_in id rows) (default_in id c)
final_find id rows [] = sym (or_none (find_in id rows))
final_find id rows (a ∷ c) =
    final_find id (with_default rows a) c ∙ (ap (λ (o : Option Row). option_or o (default_in id c)) (default_find id rows a)
    ∙ or_assoc (find_in id rows) (own_default id a) (default_in id c))

-- a default that passes
abbrev pub is_fine : Rule → Bool
is_fine a = is_empty a.defaults || is_empty (given_default_fault a a.defaults)

fine_default : (rows : List Row) (a : Rule) → is_fine a ≡ true → default_fault rows a ≡ []
fine_default rows a h = go (has_row a.id rows) (is_empty a.defaults) refl refl
  where
    go : (x y : Bool) → has_row a.id rows ≡ x → is_empty a.defaults ≡ y → default_fault rows a ≡ []
    go true y e d = rw e refl
    go false true e d = rw (e, d) refl
    go false false e d = rw (e, d) (is_nil (given_default_fault a a.defaults) (rw d at h))

pub no_default_fault : (c : List Rule) (rows : List Row) → list_all is_fine c ≡ true → defaults_fault rows c ≡ []
unfolding defaults_fault
no_default_fault [] rows h = refl
no_default_fault (a ∷ c) rows h =
    let each = both (is_fine a) (list_all is_fine c) h in
    rw (fine_default rows a each.0) (no_default_fault c (with_default rows a) each.1)

-- ---- names, none of them twice

pub not_in : (x : Text) (ys : List Text) → list_any (bytes_eq x) ys ≡ false → IsIn x ys → ⊥
not_in x [] h i = i
not_in x (y ∷ ys) h i = go (bytes_eq x y) refl i (not_in x ys)
  where
    go : (b : Bool) → bytes_eq x y ≡ b → IsIn x (y ∷ ys) → (list_any (bytes_eq x) ys ≡ false → IsIn x ys → ⊥) → ⊥
    go true e i rec = let bad : true ≡ false = rw e at h in cc
    go false e (inl same) rec = let bad : bytes_eq x y ≡ true = (bytes_eq-Decides x y).1 same in cc
    go false e (inr i) rec = rec (rw e at h) i

pub all_apart : (xs ys : List Text) → list_all (λ x. not (list_any (bytes_eq x) ys)) xs ≡ true → (n : Text) → IsIn n xs → IsIn n ys → ⊥
all_apart [] ys h n i j = i
all_apart (x ∷ xs) ys h n (inl e) j = not_in x ys (is_false (list_any (bytes_eq x) ys) (both _ _ h).0) (subst (λ z. IsIn z ys) e j)
all_apart (x ∷ xs) ys h n (inr i) j = all_apart xs ys (both (not (list_any (bytes_eq x) ys)) _ h).1 n i j

pub of_command : (f : Form) (n : Text) (pieces : List Piece) → ArePiecesOf f pieces → IsIn n (options_of pieces) → IsIn n f.flags ⊎ IsIn n f.settings
of_command f n (flag m ∷ pieces) are (inl e) = inl (subst (λ z. IsIn z f.flags) (sym e) are.0)
of_command f n (flag m ∷ pieces) are (inr i) = of_command f n pieces are.1 i
of_command f n (joined m v ∷ pieces) are (inl e) = inr (subst (λ z. IsIn z f.settings) (sym e) are.0)
of_command f n (joined m v ∷ pieces) are (inr i) = of_command f n pieces are.1 i
of_command f n (parted m v ∷ pieces) are (inl e) = inr (subst (λ z. IsIn z f.settings) (sym e) are.0.0)
of_command f n (parted m v ∷ pieces) are (inr i) = of_command f n pieces are.1 i
of_command f n (operand w ∷ pieces) are i = of_command f n pieces are.1 i
of_command f n [] are i = absurd i

in_words : (n : Text) (names words : List Text) → IsIn n (ids (word_rows names words)) → IsIn n names
in_words n names [] i = absurd i
in_words n [] (w ∷ ws) i = i
in_words n (id ∷ names) (w ∷ ws) (inl e) = inl e
in_words n (id ∷ names) (w ∷ ws) (inr i) = inr (in_words n names ws i)

in_given : (n : Text) (names : List Text) (pieces : List Piece) (words : List Text) → IsIn n (ids (given_rows names pieces words)) → IsIn n (options_of pieces) ⊎ IsIn n names
in_given n names [] words i = inr (in_words n names words i)
in_given n names (flag m ∷ pieces) words (inl e) = inl (inl e)
in_given n names (flag m ∷ pieces) words (inr i) = elim (in_given n names pieces words i) [ inl a ↦ inl (inr a) | inr b ↦ inr b ]
in_given n names (joined m v ∷ pieces) words (inl e) = inl (inl e)
in_given n names (joined m v ∷ pieces) words (inr i) = elim (in_given n names pieces words i) [ inl a ↦ inl (inr a) | inr b ↦ inr b ]
in_given n names (parted m v ∷ pieces) words (inl e) = inl (inl e)
in_given n names (parted m v ∷ pieces) words (inr i) = elim (in_given n names pieces words i) [ inl a ↦ inl (inr a) | inr b ↦ inr b ]
in_given n [] (operand w ∷ pieces) words i = in_given n [] pieces words i
in_given n (id ∷ names) (operand w ∷ pieces) words (inl e) = inr (inl e)
in_given n (id ∷ names) (operand w ∷ pieces) words (inr i) = elim (in_given n names pieces words i) [ inl a ↦ inl a | inr b ↦ inr (inr b) ]

once_words : (names words : List Text) → NoneTwice names → NoneTwice (ids (word_rows names words))
once_words names [] h = tt
once_words [] (w ∷ ws) h = tt
once_words (id ∷ names) (w ∷ ws) h = ((λ i. h.0 (in_words id names ws i)), once_words names ws h.1)

module _ (f : Form) where
  abbrev Apart : List Text → Type 0
  Apart names = (n : Text) → IsIn n names → IsIn n f.flags ⊎ IsIn n f.settings → ⊥

  pub once_given : (names : List Text) (pieces : List Piece) (words : List Text) → ArePiecesOf f pieces → NoneTwice (options_of pieces) → NoneTwice names → Apart names
      → NoneTwice (ids (given_rows names pieces words))
  once_given names [] words are once distinct apart = once_words names words distinct
  once_given names (flag m ∷ pieces) words are once distinct apart =
      ((λ i. elim (in_given m names pieces words i) [ inl a ↦ once.0 a | inr b ↦ apart m b (inl are.0) ]), once_given names pieces words are.1 once.1 distinct apart)
  once_given names (joined m v ∷ pieces) words are once distinct apart =
      ((λ i. elim (in_given m names pieces words i) [ inl a ↦ once.0 a | inr b ↦ apart m b (inr are.0) ]), once_given names pieces words are.1 once.1 distinct apart)
  once_given names (parted m v ∷ pieces) words are once distinct apart =
      ((λ i. elim (in_given m names pieces words i) [ inl a ↦ once.0 a | inr b ↦ apart m b (inr are.0.0) ]), once_given names pieces words are.1 once.1 distinct apart)
  once_given [] (operand w ∷ pieces) words are once distinct apart = once_given [] pieces words are.1 once distinct apart
  once_given (id ∷ names) (operand w ∷ pieces) words are once distinct apart = (
    (λ i. elim (in_given id names pieces words i) [ inl a ↦ apart id (inl refl) (of_command f id pieces are.1 a) | inr b ↦ distinct.0 b ]),
    once_given names pieces words are.1 once distinct.1 (λ n i. apart n (inr i)),
  )

in_rows : (n : Text) (names : List Text) (pieces : List Piece) (words : List Text) → IsIn n (options_of pieces) → IsIn n (ids (given_rows names pieces words))
in_rows n names [] words i = absurd i
in_rows n names (flag m ∷ pieces) words (inl e) = inl e
in_rows n names (flag m ∷ pieces) words (inr i) = inr (in_rows n names pieces words i)
in_rows n names (joined m v ∷ pieces) words (inl e) = inl e
in_rows n names (joined m v ∷ pieces) words (inr i) = inr (in_rows n names pieces words i)
in_rows n names (parted m v ∷ pieces) words (inl e) = inl e
in_rows n names (parted m v ∷ pieces) words (inr i) = inr (in_rows n names pieces words i)
in_rows n [] (operand w ∷ pieces) words i = in_rows n [] pieces words i
in_rows n (id ∷ names) (operand w ∷ pieces) words i = inr (in_rows n names pieces words i)

pub once_options : (names : List Text) (pieces : List Piece) (words : List Text) → NoneTwice (ids (given_rows names pieces words)) → NoneTwice (options_of pieces)
once_options names [] words h = tt
once_options names (flag m ∷ pieces) words h = ((λ i. h.0 (in_rows m names pieces words i)), once_options names pieces words h.1)
once_options names (joined m v ∷ pieces) words h = ((λ i. h.0 (in_rows m names pieces words i)), once_options names pieces words h.1)
once_options names (parted m v ∷ pieces) words h = ((λ i. h.0 (in_rows m names pieces words i)), once_options names pieces words h.1)
once_options [] (operand w ∷ pieces) words h = once_options [] pieces words h
once_options (id ∷ names) (operand w ∷ pieces) words h = once_options names pieces words h.1
