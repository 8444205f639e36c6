-- What is known of each command: which lines pass, and what is found in them.
use Rattle.std.proofs.Common.{◌≡◌, ◌∙◌, false, None, Some, List, [], length, refl, sym, subst, ap, inl, codes}
use Rattle.std.specs.List.{fold, AllByRecursion}
use Rattle.std.specs.Str.{IsUtf8}
use Rattle.clap.specs.Walk.{Row, Text, all_of, first_of, nothing_held, one_of, rows_after, with_default}
use Rattle.clap.specs.Faults.{level_fault}
use Rattle.wk_command_line.specs.CommandLine.{Form, IsIn, IsLineOf, Line, MayHave, edit, is_given, line_words, objdump, operands_of, sections, strip, validate, value_of}
use Rattle.wk_command_line.specs.Syntax.{flag_text, is_on}
use Rattle.wk_command_line.proofs.Walks.{Answers}
use Rattle.wk_command_line.proofs.LineWalks.{word_rows}
use Rattle.wk_command_line.proofs.Levels.{flag_read, line_found, line_passes, operand_read, rows_of_line, setting_read, Asks}
use Rattle.wk_command_line.proofs.ManyLines.{many_flag, many_found, many_on, many_passes, many_words}
use Rattle.wk_command_line.proofs.Forms.{built_shape, edit_answers, edit_asks, objdump_answers, objdump_asks, sections_answers, sections_asks, strip_answers, strip_asks, validate_answers}
use Rattle.wk_command_line.proofs.FirstWord.{edit_named, objdump_named, sections_named, strip_named, validate_named, IsNamed}

-- the rows of a line, with defaults
abbrev pub final_rows : Form → Line → List Row
final_rows f l = rows_after (built_shape f).rules [] (line_words l)

pub record Known (f : Form) : Type 0 where
  pub named : IsNamed f
  pub passes : (l : Line) → IsLineOf f l → level_fault (built_shape f) [] nothing_held (line_words l) false [] ≡ []
  pub found : (words : List Text) → AllByRecursion IsUtf8 words → level_fault (built_shape f) [] nothing_held words false [] ≡ []
      → (l : Line) × (words ≡ line_words l) × IsLineOf f l
  pub flags : (l : Line) → IsLineOf f l → (n : Text) → IsIn n f.flags → one_of n (final_rows f l) ≡ Some (flag_text (is_given n l))
  pub settings : (l : Line) → IsLineOf f l → (n : Text) → IsIn n f.settings → first_of n (final_rows f l) ≡ value_of n l
  pub operands : (l : Line) → IsLineOf f l → (n : Text) → IsIn n f.operands → first_of n (final_rows f l) ≡ first_of n (word_rows f.operands (operands_of l))

-- ---- commands with as many operands as names for them

module _ (f : Form) (fixed : f.more ≡ None) (named : IsNamed f) (answers : Answers f (built_shape f)) (asks : Asks f (built_shape f)) where
  as_many : (l : Line) → IsLineOf f l → length (operands_of l) ≡ length f.operands
  as_many l is = subst (λ more. MayHave (length f.operands) more (length (operands_of l))) fixed is.operands

  rows_are : (l : Line) → IsLineOf f l → final_rows f l ≡ fold with_default (rows_of_line f l) (built_shape f).rules
  rows_are l is = (line_passes f (built_shape f) answers asks l is.pieces is.once (as_many l is)).1

  pub fixed_known : Known f
  fixed_known = record {
    named = named;
    passes = λ l is. (line_passes f (built_shape f) answers asks l is.pieces is.once (as_many l is)).0;
    found = λ words utf8 none.
        let got = line_found f (built_shape f) answers asks words utf8 none in
        let many = subst (λ more. MayHave (length f.operands) more (length (operands_of got.line))) (sym fixed) got.operands in
        (got.line, got.are, record { pieces = got.pieces; once = got.once; operands = many });
    flags = λ l is n i. ap (one_of n) (rows_are l is) ∙ flag_read f (built_shape f) answers asks l is.pieces n i;
    settings = λ l is n i. ap (first_of n) (rows_are l is) ∙ setting_read f (built_shape f) answers asks l is.pieces n i;
    operands = λ l is n i. ap (first_of n) (rows_are l is) ∙ operand_read f (built_shape f) answers asks l is.pieces n i;
  }

pub edit_known : Known edit
edit_known = fixed_known edit refl edit_named edit_answers edit_asks

pub objdump_known : Known objdump
objdump_known = fixed_known objdump refl objdump_named objdump_answers objdump_asks

pub sections_known : Known sections
sections_known = fixed_known sections refl sections_named sections_answers sections_asks

pub strip_known : Known strip
strip_known = fixed_known strip refl strip_named strip_answers strip_asks

-- ---- `validate`

pub validate_known : Known validate
validate_known = record {
  named = validate_named;
  passes = λ l is. many_passes validate (codes "FILE") (built_shape validate) validate_answers l is.pieces is.once is.operands;
  found = λ words utf8 none.
      let got = many_found validate (codes "FILE") (built_shape validate) validate_answers words utf8 none in
      (got.line, got.are, record { pieces = got.pieces; once = got.once; operands = got.some });
  flags = λ l is n i. many_flag validate (codes "FILE") (built_shape validate) validate_answers l is.pieces is.once n i;
  settings = λ l is n i. absurd i;
  operands = λ l is n i. absurd i;
}

pub each_read : (l : Line) → IsLineOf validate l → is_on (codes "each") (final_rows validate l) ≡ is_given (codes "each") l
each_read l is = many_on validate (codes "FILE") (built_shape validate) validate_answers l is.pieces is.once (codes "each") (inl refl)

pub files_read : (l : Line) → IsLineOf validate l → all_of (codes "FILE") (final_rows validate l) ≡ Some (operands_of l)
files_read l is = many_words validate (codes "FILE") (built_shape validate) validate_answers l is.pieces is.once is.operands
