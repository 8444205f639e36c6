-- The words of a command: which pass, and what is found in them.
use Rattle.std.proofs.Common.{◌≡◌, ◌⊎◌, ◌∙◌, ◌≤◌, Bool, true, false, not, Option, Some, None, List, [], ◌∷◌, ◌++◌, length, refl, sym, subst, ap, ap₂, inl, inr, arith, codes}
use Rattle.std.specs.Prelude.{if◌then◌else◌, is_some, option_map, option_and_then, slice_get}
use Rattle.std.specs.Option.{option_or, option_map_or}
use Rattle.clap.specs.Facts.{explicit_source}
use Rattle.std.specs.List.{fold, list_all, list_any, AllByRecursion}
use Rattle.std.specs.Str.{bytes_eq, IsUtf8}
use Rattle.clap.specs.Walk.{Row, Text, first_of, nothing_held, one_of, row_text, rows_after, with_default}
use Rattle.clap.specs.Simple.{Shape}
use Rattle.clap.specs.Takes.{is_given as is_given_in}
use Rattle.clap.specs.Faults.{check_fault, level_fault}
use Rattle.clap.specs.declared.error.kind.ErrorKind.TheVariants as kind
use Rattle.clap.specs.declared.parser.matches.ValueSource.TheVariants.{DefaultValue}
use Rattle.wk_command_line.specs.CommandLine.{Form, IsIn, Line, NoneTwice, is_given, line_words, operands_of, options_of, rest_operands, value_of, ArePiecesOf}
use Rattle.wk_command_line.specs.Syntax.{flag_text}
use Rattle.wk_command_line.proofs.Names.{in-left, in-right}
use Rattle.wk_command_line.proofs.Rows.{flag_row, row_of, text_row}
use Rattle.wk_command_line.proofs.WordSteps.{at}
use Rattle.wk_command_line.proofs.Walks.{Answers, end_of, level_is, run_fault}
use Rattle.wk_command_line.proofs.LineWalks.{given_rows, pieces_reach, word_rows}
use Rattle.wk_command_line.proofs.LineSearch.{finds}
use Rattle.wk_command_line.proofs.LineEnds.{all_apart, default_in, final_find, find_in, is_fine, or_none, no_default_fault, once_given, once_options}
use Rattle.wk_command_line.proofs.Lookups.{find_flag, find_operand, find_setting}

-- some operand is missing
abbrev pub lacks : List Text → List Text → Bool
lacks names words = list_any (λ n. not (is_some (find_in n (word_rows names words)))) names

-- what the end of a walk asks
pub record Asks (f : Form) (s : Shape) : Type 0 where
  pub apart : list_all (λ n. not (list_any (bytes_eq n) (f.flags ++ f.settings))) f.operands ≡ true
  pub sorts : list_all (λ n. not (list_any (bytes_eq n) f.settings)) f.flags ≡ true
  pub distinct : NoneTwice f.operands
  pub fine : list_all is_fine s.rules ≡ true
  pub wants : (rows : List Row) → check_fault s rows false ≡ (if list_any (λ n. not (is_given_in n rows)) f.operands then kind.MissingRequiredArgument ∷ [] else [])
  pub flags : (n : Text) → IsIn n f.flags → default_in n s.rules ≡ Some (row_of DefaultValue n (codes "false"))
  pub others : (n : Text) → IsIn n f.settings ⊎ IsIn n f.operands → default_in n s.rules ≡ None
  pub counts : (words : List Text) → length words ≤ length f.operands → lacks f.operands words ≡ false → length words ≡ length f.operands
  pub fills : (words : List Text) → length words ≡ length f.operands → lacks f.operands words ≡ false

abbrev pub rows_of_line : Form → Line → List Row
rows_of_line f l = given_rows f.operands l.pieces (rest_operands l.rest)

any_same : (xs : List Text) (p q : Text → Bool) → ((n : Text) → IsIn n xs → p n ≡ q n) → list_any p xs ≡ list_any q xs
any_same [] p q h = refl
any_same (x ∷ xs) p q h = rw (h x (inl refl), any_same xs p q (λ n i. h n (inr i))) refl

abbrev is_explicit : Option Row → Bool
is_explicit o = option_map_or (λ r. explicit_source r.source) o false

explicit_words : (n : Text) (names words : List Text) → is_explicit (find_in n (word_rows names words)) ≡ is_some (find_in n (word_rows names words))
explicit_words n names [] = refl
explicit_words n [] (w ∷ ws) = refl
explicit_words n (id ∷ names) (w ∷ ws) = go (bytes_eq id n) refl (explicit_words n names ws)
  where
    go : (b : Bool) → bytes_eq id n ≡ b → is_explicit (find_in n (word_rows names ws)) ≡ is_some (find_in n (word_rows names ws))
        → is_explicit (find_in n (word_rows (id ∷ names) (w ∷ ws))) ≡ is_some (find_in n (word_rows (id ∷ names) (w ∷ ws)))
    go true e rec = rw e refl
    go false e rec = rw e rec

none_missing : (b : Bool) → (if b then kind.MissingRequiredArgument ∷ [] else []) ≡ [] → b ≡ false
none_missing true h = cc
none_missing false h = refl

module _ (f : Form) (s : Shape) (answers : Answers f s) (asks : Asks f s) where
  no_option : (n : Text) → IsIn n f.operands → IsIn n f.flags ⊎ IsIn n f.settings → ⊥
  no_option n i (inl flag) = all_apart f.operands (f.flags ++ f.settings) asks.apart n i (in-left n f.flags f.settings flag)
  no_option n i (inr setting) = all_apart f.operands (f.flags ++ f.settings) asks.apart n i (in-right n f.flags f.settings setting)

  module _ (l : Line) (pieces : ArePiecesOf f l.pieces) where
    operand_find : (n : Text) → IsIn n f.operands → find_in n (fold with_default (rows_of_line f l) s.rules) ≡ find_in n (word_rows f.operands (operands_of l))
    operand_find n i =
        final_find n (rows_of_line f l) s.rules ∙ (ap (option_or (find_in n (rows_of_line f l))) (asks.others n (inr i))
        ∙ (or_none (find_in n (rows_of_line f l)) ∙ find_operand f n (no_option n i) f.operands l.pieces (rest_operands l.rest) pieces))

    wanted : list_any (λ n. not (is_given_in n (fold with_default (rows_of_line f l) s.rules))) f.operands ≡ lacks f.operands (operands_of l)
    wanted = any_same f.operands (λ n. not (is_given_in n (fold with_default (rows_of_line f l) s.rules)))
        (λ n. not (is_some (find_in n (word_rows f.operands (operands_of l))))) (λ n i. ap not (ap is_explicit (operand_find n i) ∙ explicit_words n f.operands (operands_of l)))

    end_is : end_of s (rows_of_line f l) ≡ (if lacks f.operands (operands_of l) then kind.MissingRequiredArgument ∷ [] else [])
    end_is = rw (no_default_fault s.rules (rows_of_line f l) asks.fine, asks.wants (fold with_default (rows_of_line f l) s.rules), wanted) refl

    -- ---- what is read of the rows

    pub flag_read : (n : Text) → IsIn n f.flags → one_of n (fold with_default (rows_of_line f l) s.rules) ≡ Some (flag_text (is_given n l))
    flag_read n i =
        ap (option_and_then row_text) (final_find n (rows_of_line f l) s.rules)
        ∙ (ap₂ (λ a b. option_and_then row_text (option_or a b))
        (find_flag f n (all_apart f.flags f.settings asks.sorts n i) f.operands l.pieces (rest_operands l.rest) (λ j. no_option n j (inl i)) pieces) (asks.flags n i)
        ∙ go (is_given n l))
      where
        go : (b : Bool) → option_and_then row_text (option_or (if b then Some (flag_row n) else None) (Some (row_of DefaultValue n (codes "false")))) ≡ Some (flag_text b)
        go true = refl
        go false = refl

    pub setting_read : (n : Text) → IsIn n f.settings → first_of n (fold with_default (rows_of_line f l) s.rules) ≡ value_of n l
    setting_read n i =
        ap (option_and_then (λ r. slice_get r.values 0)) (final_find n (rows_of_line f l) s.rules)
        ∙ (ap₂ (λ a b. option_and_then (λ r. slice_get r.values 0) (option_or a b))
        (find_setting f n (λ j. all_apart f.flags f.settings asks.sorts n j i) f.operands l.pieces (rest_operands l.rest) (λ j. no_option n j (inr i)) pieces) (asks.others n (inl i))
        ∙ go (value_of n l))
      where
        go : (v : Option Text) → option_and_then (λ r. slice_get r.values 0) (option_or (option_map (text_row n) v) None) ≡ v
        go None = refl
        go (Some v) = refl

    pub operand_read : (n : Text) → IsIn n f.operands → first_of n (fold with_default (rows_of_line f l) s.rules) ≡ first_of n (word_rows f.operands (operands_of l))
    operand_read n i = ap (option_and_then (λ r. slice_get r.values 0)) (operand_find n i)

  pub line_passes : (l : Line) → ArePiecesOf f l.pieces → NoneTwice (options_of l.pieces) → length (operands_of l) ≡ length f.operands
      → (level_fault s [] nothing_held (line_words l) false [] ≡ []) × (rows_after s.rules [] (line_words l) ≡ fold with_default (rows_of_line f l) s.rules)
  line_passes l pieces none_twice many =
      let once = once_given f f.operands l.pieces (rest_operands l.rest) pieces none_twice asks.distinct no_option in
      let fits : length (operands_of l) ≤ length f.operands = omega (arith, many) in
      let reaches = pieces_reach f s answers l.pieces l.rest f.operands [] None 1 tt answers.operands pieces fits once in
      let full : end_of s (rows_of_line f l) ≡ [] = rw (end_is l pieces, asks.fills (operands_of l) many) refl in
      (level_is s (line_words l) ∙ (reaches.faults ∙ full), ap (λ rows. fold with_default rows s.rules) reaches.are)

  pub record FoundLine (words : List Text) : Type 0 where
    pub line : Line
    pub are : words ≡ line_words line
    pub pieces : ArePiecesOf f line.pieces
    pub once : NoneTwice (options_of line.pieces)
    pub operands : length (operands_of line) ≡ length f.operands

  pub line_found : (words : List Text) → AllByRecursion IsUtf8 words → level_fault s [] nothing_held words false [] ≡ [] → FoundLine words
  line_found words utf8 none =
      let run : run_fault s (at [] None 1 false) words ≡ [] = sym (level_is s words) ∙ none in
      let found = (finds f s answers (length words) words f.operands [] None 1 (omega arith) utf8 tt answers.operands tt run).1 in
      let l : Line = record { pieces = found.pieces; rest = found.rest } in
      let reaches = pieces_reach f s answers found.pieces found.rest f.operands [] None 1 tt answers.operands found.of found.fits found.once in
      let ended : end_of s (rows_of_line f l) ≡ [] = sym reaches.faults ∙ subst (λ ws. run_fault s (at [] None 1 false) ws ≡ []) found.are run in
      let full = none_missing (lacks f.operands (operands_of l)) (sym (end_is l found.of) ∙ ended) in record {
        line = l;
        are = found.are;
        pieces = found.of;
        once = once_options f.operands found.pieces (rest_operands found.rest) found.once;
        operands = asks.counts (operands_of l) found.fits full;
      }
