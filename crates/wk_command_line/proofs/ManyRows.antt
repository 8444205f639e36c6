-- What the rows of a walk hold, where an operand may be given more than once.
use Rattle.std.proofs.Common.{◌≡◌, ◌∙◌, ◌&&◌, Bool, true, false, Option, Some, None, List, [], ◌∷◌, ◌++◌, refl, sym, ap}
use Rattle.std.specs.Prelude.{if◌then◌else◌, is_some}
use Rattle.std.specs.Option.{option_or}
use Rattle.std.specs.List.{list_any}
use Rattle.std.specs.Str.{bytes_eq}
use Rattle.std.proofs.lemmas.List.Folds.{find-append}
use Rattle.std.proofs.lemmas.Slice.Eq.{bytes_eq-Decides}
use Rattle.clap.specs.Walk.{Row, Text, has_row, more_values, with_values}
use Rattle.clap.specs.Faults.{repeat_fault}
use Rattle.clap.specs.declared.builder.value_parser.Reading.TheVariants as reading
use Rattle.clap.specs.declared.parser.matches.ValueSource.TheVariants.{CommandLine}
use Rattle.clap.specs.declared.error.kind.ErrorKind.TheVariants as kind
use Rattle.wk_command_line.specs.CommandLine.{IsIn}
use Rattle.wk_command_line.proofs.Names.{same_text}
use Rattle.wk_command_line.proofs.Rows.{flag_row}
use Rattle.wk_command_line.proofs.LineEnds.{find_in, or_none}
use Rattle.wk_command_line.proofs.ManyWords.{extend_many}

-- ---- what is looked for

-- the name is among these
abbrev pub is_among : Text → List Text → Bool
is_among n names = list_any (λ option. bytes_eq option n) names

abbrev pub flag_if : Text → Bool → Option Row
flag_if n b = if b then Some (flag_row n) else None

abbrev pub words_row : Text → List Text → Option Row
words_row id [] = None
words_row id (w ∷ ws) = Some (record { id = id; values = w ∷ ws; count = None; source = Some CommandLine; reading = reading.AsWritten })

-- the rows hold these flags of those names, and these words
pub record Holds (names : List Text) (id : Text) (flags words : List Text) (rows : List Row) : Type 0 where
  pub flags_are : (n : Text) → IsIn n names → find_in n rows ≡ flag_if n (is_among n flags)
  pub words_are : find_in id rows ≡ words_row id words

pub none_held : (names : List Text) (id : Text) → Holds names id [] [] []
none_held names id = record { flags_are = λ n i. refl; words_are = refl }

abbrev pub with_word : List Text → Option Text → List Text
with_word words None = words
with_word words (Some w) = words ++ w ∷ []

has_find : (n : Text) (rows : List Row) → has_row n rows ≡ is_some (find_in n rows)
has_find n [] = refl
has_find n (r ∷ rows) = go (bytes_eq r.id n) refl (has_find n rows)
  where
    go : (b : Bool) → bytes_eq r.id n ≡ b → has_row n rows ≡ is_some (find_in n rows) → has_row n (r ∷ rows) ≡ is_some (find_in n (r ∷ rows))
    go true e rec = rw e refl
    go false e rec = rw e rec

some_flag : (n : Text) (b : Bool) → is_some (flag_if n b) ≡ b
some_flag n true = refl
some_flag n false = refl

-- ---- a word more

module _ (id w : Text) where
  abbrev one_more : List Row → List Row
  one_more = with_values id reading.AsWritten CommandLine (w ∷ [])

  others_stay : (n : Text) → bytes_eq id n ≡ false → (rows : List Row) → find_in n (one_more rows) ≡ find_in n rows
  others_stay n apart [] = rw apart refl
  others_stay n apart (r ∷ rows) = go (bytes_eq r.id id) refl (others_stay n apart rows)
    where
      skipped : (b : Bool) → bytes_eq r.id n ≡ b → find_in n (one_more rows) ≡ find_in n rows → find_in n (r ∷ one_more rows) ≡ find_in n (r ∷ rows)
      skipped true e rec = rw e refl
      skipped false e rec = rw e rec

      go : (b : Bool) → bytes_eq r.id id ≡ b → find_in n (one_more rows) ≡ find_in n rows → find_in n (one_more (r ∷ rows)) ≡ find_in n (r ∷ rows)
      go true e rec =
          let other : bytes_eq r.id n ≡ false = ap (λ (x : Text). bytes_eq x n) ((bytes_eq-Decides r.id id).0 e) ∙ apart in
          rw (e, other) refl
      go false e rec = rw e (skipped (bytes_eq r.id n) refl rec)

  abbrev more_found : Option Row → Option Row
  more_found None = Some (record { id = id; values = w ∷ []; count = None; source = Some CommandLine; reading = reading.AsWritten })
  more_found (Some r) = find_in id (more_values CommandLine (w ∷ []) r)

  found_more : (rows : List Row) → find_in id (one_more rows) ≡ more_found (find_in id rows)
  found_more [] = rw (same_text id) refl
  found_more (r ∷ rows) = go (bytes_eq r.id id) refl (found_more rows)
    where
      here : bytes_eq r.id id ≡ true → find_in id (more_values CommandLine (w ∷ []) r ++ rows) ≡ more_found (Some r)
      here e = rw e refl

      later : bytes_eq r.id id ≡ false → find_in id (one_more rows) ≡ more_found (find_in id rows) → find_in id (r ∷ one_more rows) ≡ more_found (find_in id rows)
      later e rec = rw e rec

      go : (b : Bool) → bytes_eq r.id id ≡ b → find_in id (one_more rows) ≡ more_found (find_in id rows)
          → find_in id (one_more (r ∷ rows)) ≡ more_found (find_in id (r ∷ rows))
      go true e rec = rw e (here e)
      go false e rec = rw e (later e rec)

  more_words : (words : List Text) → more_found (words_row id words) ≡ words_row id (words ++ w ∷ [])
  more_words [] = refl
  more_words (x ∷ xs) = rw (same_text id) refl

pub word_held : (names : List Text) (id : Text) → ((n : Text) → IsIn n names → bytes_eq id n ≡ false) → (flags words : List Text) (rows : List Row) (p : Option Text)
    → Holds names id flags words rows → Holds names id flags (with_word words p) (extend_many id rows p)
word_held names id apart flags words rows None h = h
word_held names id apart flags words rows (Some w) h = record {
  flags_are = λ n i. others_stay id w n (apart n i) rows ∙ h.flags_are n i;
  words_are = found_more id w rows ∙ (ap (more_found id w) h.words_are ∙ more_words id w words);
}

-- ---- a flag more

module _ (names : List Text) (id : Text) (apart : (n : Text) → IsIn n names → bytes_eq id n ≡ false) (flags words : List Text) (rows : List Row)
    (h : Holds names id flags words rows) (n : Text) (i : IsIn n names) where
  pub flag_had : has_row n rows ≡ is_among n flags
  flag_had = has_find n rows ∙ (ap is_some (h.flags_are n i) ∙ some_flag n (is_among n flags))

  pub flag_again : repeat_fault false n rows ≡ (if is_among n flags then kind.ArgumentConflict ∷ [] else [])
  flag_again = rw flag_had (go (is_among n flags))
    where
      go : (b : Bool) → (if b && true then kind.ArgumentConflict ∷ [] else []) ≡ (if b then kind.ArgumentConflict ∷ [] else [])
      go true = refl
      go false = refl

  pub flag_held : Holds names id (n ∷ flags) words (rows ++ flag_row n ∷ [])
  flag_held = record {
    flags_are = λ m j. find-append (λ r. bytes_eq r.id m) rows (flag_row n ∷ []) ∙ (ap (λ (o : Option Row). option_or o (find_in m (flag_row n ∷ []))) (h.flags_are m j) ∙ go m (bytes_eq n m) refl);
    words_are = find-append (λ r. bytes_eq r.id id) rows (flag_row n ∷ []) ∙ (rw other (or_none (find_in id rows)) ∙ h.words_are);
  }
    where
      other : bytes_eq n id ≡ false
      other = differs (bytes_eq n id) refl
        where
          differs : (b : Bool) → bytes_eq n id ≡ b → bytes_eq n id ≡ false
          differs true e =
              let bad : true ≡ false = sym (same_text id) ∙ (ap (bytes_eq id) (sym ((bytes_eq-Decides n id).0 e)) ∙ apart n i) in
              cc
          differs false e = e

      both : (m : Text) (b : Bool) → option_or (flag_if m b) (Some (flag_row m)) ≡ Some (flag_row m)
      both m true = refl
      both m false = refl

      go : (m : Text) (b : Bool) → bytes_eq n m ≡ b → option_or (flag_if m (is_among m flags)) (find_in m (flag_row n ∷ [])) ≡ flag_if m (is_among m (n ∷ flags))
      go m true e = rw e (ap (λ (x : Text). option_or (flag_if m (is_among m flags)) (Some (flag_row x))) ((bytes_eq-Decides n m).0 e) ∙ both m (is_among m flags))
      go m false e = rw e (or_none (flag_if m (is_among m flags)))
