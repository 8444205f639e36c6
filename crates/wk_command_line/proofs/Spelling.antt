-- What is read of the words is the command that they spell.
use Rattle.std.proofs.Common.{◌≡◌, ◌∙◌, Bool, true, false, Option, Some, None, List, [], ◌∷◌, length, refl, sym, subst, ap, inl, inr, arith, codes}
use Rattle.std.specs.List.{AllByRecursion}
use Rattle.std.specs.Str.{IsUtf8}
use Rattle.wk_body.specs.declared.types.Profile.{Profile}
use Rattle.clap.specs.Walk.{Row, Text, first_of, nothing_held, one_of}
use Rattle.clap.specs.Simple.{subcommand_of}
use Rattle.clap.specs.Faults.{fault_of, level_fault}
use Rattle.wk_command_line.specs.declared.command.Asked.{Asked}
use Rattle.wk_command_line.specs.declared.command.Asked.TheVariants as asks
use Rattle.wk_command_line.specs.declared.command.EachCommand.{EachCommand}
use Rattle.wk_command_line.specs.declared.command.EditCommand.{EditCommand}
use Rattle.wk_command_line.specs.declared.command.ObjdumpCommand.{ObjdumpCommand}
use Rattle.wk_command_line.specs.declared.command.StripCommand.{StripCommand}
use Rattle.wk_command_line.specs.declared.command.ValidateCommand.{ValidateCommand}
use Rattle.wk_command_line.specs.CommandLine.{Form, IsIn, IsLineOf, IsSpelled, KeepsName, Line, SpellsEach, SpellsEdit, SpellsNone, SpellsObjdump, SpellsSections, SpellsStrip, SpellsValidate, Spells, edit, is_given, line_words, objdump, operands_of, profile_of, sections, strip, validate, value_of}
use Rattle.wk_command_line.specs.Syntax.{IsFlag, IsProfile, Reads, ReadsEach, ReadsEdit, ReadsObjdump, ReadsStrip, ReadsValidate, flag_text, wasmkit_app}
use Rattle.wk_command_line.proofs.LineWalks.{word_rows}
use Rattle.wk_command_line.proofs.Forms.{built_shape}
use Rattle.wk_command_line.proofs.Known.{Known, each_read, edit_known, files_read, final_rows, objdump_known, sections_known, strip_known, validate_known}
use Rattle.wk_command_line.proofs.FirstWord.{edit_named, fault_is, first_word, objdump_named, sections_named, strip_named, subcommand_is, validate_named, IsCommand, IsNamed}

-- ---- any command

named_of : (f : Form) → IsCommand f → IsNamed f
named_of f (inl e) = subst IsNamed (sym e) edit_named
named_of f (inr (inl e)) = subst IsNamed (sym e) objdump_named
named_of f (inr (inr (inl e))) = subst IsNamed (sym e) sections_named
named_of f (inr (inr (inr (inl e)))) = subst IsNamed (sym e) strip_named
named_of f (inr (inr (inr (inr e)))) = subst IsNamed (sym e) validate_named

abbrev Found : Type 0
Found = Text × List Row

name_in : Option Found → Text
name_in None = []
name_in (Some p) = p.0

rows_in : Option Found → List Row
rows_in None = []
rows_in (Some p) = p.1

pub both_same : (a c : Text) (b d : List Row) (p q : Option Found) → p ≡ Some (a, b) → q ≡ Some (c, d) → p ≡ q → (a ≡ c) × (b ≡ d)
unfolding name_in rows_in
both_same a c b d p q e f same =
    let one : Some (a, b) ≡ q = sym e ∙ same in
    let all : Some (a, b) ≡ Some (c, d) = one ∙ f in
    (ap name_in all, ap rows_in all)

module _ (f : Form) (known : Known f) where
  pub spelled_passes : (words : List Text) (l : Line) → IsSpelled f words l → (fault_of wasmkit_app words ≡ []) × (subcommand_of wasmkit_app words ≡ Some (f.name, final_rows f l))
  spelled_passes words l is = (
    ap (fault_of wasmkit_app) is.0 ∙ (fault_is f known.named (line_words l) ∙ known.passes l is.1),
    ap (subcommand_of wasmkit_app) is.0 ∙ subcommand_is f known.named (line_words l),
  )

  passes_spelled : (words : List Text) (rows : List Row) → AllByRecursion IsUtf8 words → fault_of wasmkit_app words ≡ [] → subcommand_of wasmkit_app words ≡ Some (f.name, rows)
      → (l : Line) × IsSpelled f words l × (rows ≡ final_rows f l)
  passes_spelled words rows utf8 none found =
      let first = first_word words utf8 none in
      let g = first.0 in
      let rest = first.2 in
      let met = subcommand_is g (named_of g first.1) rest in
      let same = both_same _ f.name _ rows _ _ met found (ap (subcommand_of wasmkit_app) (sym first.3)) in
      let is : words ≡ f.name ∷ rest = first.3 ∙ ap (λ (w : Text). w ∷ rest) same.0 in
      let utf8_rest : AllByRecursion IsUtf8 rest = (subst (AllByRecursion IsUtf8) is utf8).1 in
      let level : level_fault (built_shape f) [] nothing_held rest false [] ≡ [] = sym (fault_is f known.named rest) ∙ (ap (fault_of wasmkit_app) (sym is) ∙ none) in
      let line = known.found rest utf8_rest level in
      let spelled : IsSpelled f words line.0 = (is ∙ ap (λ t. f.name ∷ t) line.1, line.2) in
      let again = both_same f.name f.name rows (final_rows f line.0) _ _ found (spelled_passes words line.0 spelled).1 refl in
      (line.0, spelled, again.1)

-- ---- operands

abbrev file_names : List Text
file_names = codes "FILE" ∷ []

abbrev two_names : List Text
two_names = codes "FILE" ∷ codes "OUT" ∷ []

abbrev three_names : List Text
three_names = codes "FILE" ∷ codes "SCRIPT" ∷ codes "OUT" ∷ []

pub some_words : {words files : List Text} → Some words ≡ Some files → words ≡ files
some_words e = cc

one_word : (words : List Text) (a : Text) → length words ≡ 1 → first_of (codes "FILE") (word_rows file_names words) ≡ Some a → words ≡ a ∷ []
one_word [] a h e = absurd (omega arith)
one_word (x ∷ []) a h e = cc
one_word (x ∷ y ∷ words) a h e = absurd (omega arith)

two_words : (words : List Text) (a b : Text) → length words ≡ 2 → first_of (codes "FILE") (word_rows two_names words) ≡ Some a
    → first_of (codes "OUT") (word_rows two_names words) ≡ Some b → words ≡ a ∷ b ∷ []
two_words [] a b h e f = absurd (omega arith)
two_words (x ∷ []) a b h e f = absurd (omega arith)
two_words (x ∷ y ∷ []) a b h e f = cc
two_words (x ∷ y ∷ z ∷ words) a b h e f = absurd (omega arith)

three_words : (words : List Text) (a b c : Text) → length words ≡ 3 → first_of (codes "FILE") (word_rows three_names words) ≡ Some a
    → first_of (codes "SCRIPT") (word_rows three_names words) ≡ Some b → first_of (codes "OUT") (word_rows three_names words) ≡ Some c → words ≡ a ∷ b ∷ c ∷ []
three_words [] a b c h e f g = absurd (omega arith)
three_words (x ∷ []) a b c h e f g = absurd (omega arith)
three_words (x ∷ y ∷ []) a b c h e f g = absurd (omega arith)
three_words (x ∷ y ∷ z ∷ []) a b c h e f g = cc
three_words (x ∷ y ∷ z ∷ u ∷ words) a b c h e f g = absurd (omega arith)

-- ---- options

flag_text_same : (a b : Bool) → flag_text a ≡ flag_text b → a ≡ b
flag_text_same true true e = refl
flag_text_same true false e = cc
flag_text_same false true e = cc
flag_text_same false false e = refl

pub some_same : (a b : Bool) → Some (flag_text a) ≡ Some (flag_text b) → a ≡ b
some_same a b e = flag_text_same a b (cc)

module _ (f : Form) (known : Known f) (l : Line) (is : IsLineOf f l) where
  abbrev found_flag : Text → Type 0
  found_flag n = one_of n (final_rows f l) ≡ Some (flag_text (is_given n l))

  pub the_flag : (n : Text) → IsIn n f.flags → found_flag n
  the_flag n i = known.flags l is n i

  pub the_setting : (n : Text) → IsIn n f.settings → first_of n (final_rows f l) ≡ value_of n l
  the_setting n i = known.settings l is n i

  the_operand : (n : Text) → IsIn n f.operands → first_of n (final_rows f l) ≡ first_of n (word_rows f.operands (operands_of l))
  the_operand n i = known.operands l is n i

  -- both ways, of a flag
  flag_said : (n : Text) → IsIn n f.flags → (b : Bool) → b ≡ is_given n l → IsFlag n (final_rows f l) b
  flag_said n i b e v h = e ∙ some_same (is_given n l) v (sym (the_flag n i) ∙ h)

  profile_said : IsIn (codes "extended") f.flags → (p : Profile) → p ≡ profile_of (is_given (codes "extended") l) → IsProfile (final_rows f l) p
  profile_said i p e v h = e ∙ ap profile_of (some_same (is_given (codes "extended") l) v (sym (the_flag (codes "extended") i) ∙ h))

-- ---- the commands

module _ (words : List Text) where
  edit_read : (rows : List Row) (c : EditCommand) → AllByRecursion IsUtf8 words → fault_of wasmkit_app words ≡ [] → subcommand_of wasmkit_app words ≡ Some (edit.name, rows)
      → ReadsEdit rows c → SpellsEdit words c
  edit_read rows c utf8 none found reads0 =
      let got = passes_spelled edit edit_known words rows utf8 none found in
      let l = got.0 in
      let is = got.1.1 in
      let reads = subst (λ rs. ReadsEdit rs c) got.2 reads0 in record {
        line = l;
        spelled = got.1;
        operands = three_words (operands_of l) _ _ _ is.operands (sym (the_operand edit edit_known l is (codes "FILE") (inl refl)) ∙ reads.file)
            (sym (the_operand edit edit_known l is (codes "SCRIPT") (inr (inl refl))) ∙ reads.script) (sym (the_operand edit edit_known l is (codes "OUT") (inr (inr (inl refl)))) ∙ reads.out);
        keep_valid = reads.keep_valid (is_given (codes "keep-valid") l) (the_flag edit edit_known l is (codes "keep-valid") (inl refl));
        profile = reads.profile (is_given (codes "extended") l) (the_flag edit edit_known l is (codes "extended") (inr (inl refl)));
        new = reads.new;
        other = reads.other;
      }

  objdump_read : (rows : List Row) (c : ObjdumpCommand) → AllByRecursion IsUtf8 words → fault_of wasmkit_app words ≡ []
      → subcommand_of wasmkit_app words ≡ Some (objdump.name, rows) → ReadsObjdump rows c → SpellsObjdump words c
  objdump_read rows c utf8 none found reads0 =
      let got = passes_spelled objdump objdump_known words rows utf8 none found in
      let l = got.0 in
      let is = got.1.1 in
      let reads = subst (λ rs. ReadsObjdump rs c) got.2 reads0 in record {
        line = l;
        spelled = got.1;
        operands = one_word (operands_of l) _ is.operands (sym (the_operand objdump objdump_known l is (codes "FILE") (inl refl)) ∙ reads.file);
        parts = reads.parts _ _ _ _ (the_flag objdump objdump_known l is (codes "headers") (inl refl)) (the_flag objdump objdump_known l is (codes "details") (inr (inl refl)))
            (the_flag objdump objdump_known l is (codes "code") (inr (inr (inl refl)))) (the_flag objdump objdump_known l is (codes "uses") (inr (inr (inr (inl refl)))));
        profile = reads.profile _ (the_flag objdump objdump_known l is (codes "extended") (inr (inr (inr (inr (inl refl))))));
      }

  sections_read : (rows : List Row) (file : Text) → AllByRecursion IsUtf8 words → fault_of wasmkit_app words ≡ [] → subcommand_of wasmkit_app words ≡ Some (sections.name, rows)
      → first_of (codes "FILE") rows ≡ Some file → SpellsSections words file
  sections_read rows file utf8 none found reads0 =
      let got = passes_spelled sections sections_known words rows utf8 none found in
      let l = got.0 in
      let is = got.1.1 in
      let reads : first_of (codes "FILE") (final_rows sections l) ≡ Some file = ap (first_of (codes "FILE")) (sym got.2) ∙ reads0 in record {
        line = l;
        spelled = got.1;
        operands = one_word (operands_of l) file is.operands (sym (the_operand sections sections_known l is (codes "FILE") (inl refl)) ∙ reads);
      }

  strip_read : (rows : List Row) (c : StripCommand) → AllByRecursion IsUtf8 words → fault_of wasmkit_app words ≡ [] → subcommand_of wasmkit_app words ≡ Some (strip.name, rows)
      → ReadsStrip rows c → SpellsStrip words c
  strip_read rows c utf8 none found reads0 =
      let got = passes_spelled strip strip_known words rows utf8 none found in
      let l = got.0 in
      let is = got.1.1 in
      let reads = subst (λ rs. ReadsStrip rs c) got.2 reads0 in record {
        line = l;
        spelled = got.1;
        operands = two_words (operands_of l) _ _ is.operands (sym (the_operand strip strip_known l is (codes "FILE") (inl refl)) ∙ reads.file)
            (sym (the_operand strip strip_known l is (codes "OUT") (inr (inl refl))) ∙ reads.out);
        keep = subst (λ v. KeepsName v c.keep) (the_setting strip strip_known l is (codes "keep") (inl refl)) reads.keep;
        profile = reads.profile _ (the_flag strip strip_known l is (codes "extended") (inl refl));
        new = reads.new;
      }

  validate_read : (rows : List Row) (c : ValidateCommand) → AllByRecursion IsUtf8 words → fault_of wasmkit_app words ≡ []
      → subcommand_of wasmkit_app words ≡ Some (validate.name, rows) → ReadsValidate rows c → SpellsValidate words c
  validate_read rows c utf8 none found reads0 =
      let got = passes_spelled validate validate_known words rows utf8 none found in
      let l = got.0 in
      let is = got.1.1 in
      let reads = subst (λ rs. ReadsValidate rs c) got.2 reads0 in record {
        line = l;
        spelled = got.1;
        alone = sym (each_read l is) ∙ reads.alone;
        explain = reads.explain _ (the_flag validate validate_known l is (codes "explain") (inr (inr (inl refl))));
        operands = some_words (sym (files_read l is) ∙ reads.file);
        profile = reads.profile _ (the_flag validate validate_known l is (codes "extended") (inr (inl refl)));
      }

  each_spelled : (rows : List Row) (c : EachCommand) → AllByRecursion IsUtf8 words → fault_of wasmkit_app words ≡ []
      → subcommand_of wasmkit_app words ≡ Some (validate.name, rows) → ReadsEach rows c → SpellsEach words c
  each_spelled rows c utf8 none found reads0 =
      let got = passes_spelled validate validate_known words rows utf8 none found in
      let l = got.0 in
      let is = got.1.1 in
      let reads = subst (λ rs. ReadsEach rs c) got.2 reads0 in record {
        line = l;
        spelled = got.1;
        each = sym (each_read l is) ∙ reads.each;
        explain = reads.explain _ (the_flag validate validate_known l is (codes "explain") (inr (inr (inl refl))));
        operands = some_words (sym (files_read l is) ∙ reads.files);
        profile = reads.profile _ (the_flag validate validate_known l is (codes "extended") (inr (inl refl)));
      }

-- what is read is what the words spell
pub read_spelled : (words : List Text) → AllByRecursion IsUtf8 words → fault_of wasmkit_app words ≡ [] → (a : Asked) → Reads (subcommand_of wasmkit_app words) a → Spells words a
read_spelled words utf8 none (asks.Edit c) r = edit_read words r.0 c utf8 none r.1 r.2
read_spelled words utf8 none (asks.Objdump c) r = objdump_read words r.0 c utf8 none r.1 r.2
read_spelled words utf8 none (asks.Sections file) r = sections_read words r.0 file.now utf8 none r.1 r.2
read_spelled words utf8 none (asks.Strip c) r = strip_read words r.0 c utf8 none r.1 r.2
read_spelled words utf8 none (asks.Validate c) r = validate_read words r.0 c utf8 none r.1 r.2
read_spelled words utf8 none (asks.ValidateEach c) r = each_spelled words r.0 c utf8 none r.1 r.2

pub operand_said : (f : Form) (known : Known f) (l : Line) (is : IsLineOf f l) (n : Text) (given : List Text) (a : Text) → IsIn n f.operands → operands_of l ≡ given
    → first_of n (word_rows f.operands given) ≡ Some a → first_of n (final_rows f l) ≡ Some a
operand_said f known l is n given a i e h = the_operand f known l is n i ∙ (ap (λ ws. first_of n (word_rows f.operands ws)) e ∙ h)

-- what the words spell passes, and is read
pub spelled_read : (words : List Text) (a : Asked) → Spells words a → (fault_of wasmkit_app words ≡ []) × Reads (subcommand_of wasmkit_app words) a
spelled_read words (asks.Edit c) s =
    let passes = spelled_passes edit edit_known words s.line s.spelled in
    let is = s.spelled.1 in
    let given = c.file.now ∷ c.script.now ∷ c.out.now ∷ [] in (
      passes.0,
      (
        final_rows edit s.line,
        passes.1,
        record {
          file = operand_said edit edit_known s.line is (codes "FILE") given _ (inl refl) s.operands refl;
          script = operand_said edit edit_known s.line is (codes "SCRIPT") given _ (inr (inl refl)) s.operands refl;
          out = operand_said edit edit_known s.line is (codes "OUT") given _ (inr (inr (inl refl))) s.operands refl;
          keep_valid = flag_said edit edit_known s.line is (codes "keep-valid") (inl refl) c.keep_valid s.keep_valid;
          profile = profile_said edit edit_known s.line is (inr (inl refl)) c.profile s.profile;
          new = s.new;
          other = s.other;
        },
      ),
    )
spelled_read words (asks.Objdump c) s =
    let passes = spelled_passes objdump objdump_known words s.line s.spelled in
    let is = s.spelled.1 in (
      passes.0,
      (
        final_rows objdump s.line,
        passes.1,
        record {
          file = operand_said objdump objdump_known s.line is (codes "FILE") (c.file.now ∷ []) _ (inl refl) s.operands refl;
          parts = λ h d k u eh ed ek eu.
              let same_h = some_same _ h (sym (the_flag objdump objdump_known s.line is (codes "headers") (inl refl)) ∙ eh) in
              let same_d = some_same _ d (sym (the_flag objdump objdump_known s.line is (codes "details") (inr (inl refl))) ∙ ed) in
              let same_k = some_same _ k (sym (the_flag objdump objdump_known s.line is (codes "code") (inr (inr (inl refl)))) ∙ ek) in
              let same_u = some_same _ u (sym (the_flag objdump objdump_known s.line is (codes "uses") (inr (inr (inr (inl refl))))) ∙ eu) in
              rw (← same_h, ← same_d, ← same_k, ← same_u) s.parts;
          profile = profile_said objdump objdump_known s.line is (inr (inr (inr (inr (inl refl))))) c.profile s.profile;
        },
      ),
    )
spelled_read words (asks.Sections file) s =
    let passes = spelled_passes sections sections_known words s.line s.spelled in (
      passes.0,
      (
        final_rows sections s.line,
        passes.1,
        operand_said sections sections_known s.line s.spelled.1 (codes "FILE") (file.now ∷ []) _ (inl refl) s.operands refl,
      ),
    )
spelled_read words (asks.Strip c) s =
    let passes = spelled_passes strip strip_known words s.line s.spelled in
    let is = s.spelled.1 in
    let given = c.file.now ∷ c.out.now ∷ [] in (
      passes.0,
      (
        final_rows strip s.line,
        passes.1,
        record {
          file = operand_said strip strip_known s.line is (codes "FILE") given _ (inl refl) s.operands refl;
          out = operand_said strip strip_known s.line is (codes "OUT") given _ (inr (inl refl)) s.operands refl;
          keep = subst (λ v. KeepsName v c.keep) (sym (the_setting strip strip_known s.line is (codes "keep") (inl refl))) s.keep;
          profile = profile_said strip strip_known s.line is (inl refl) c.profile s.profile;
          new = s.new;
        },
      ),
    )
spelled_read words (asks.Validate c) s =
    let passes = spelled_passes validate validate_known words s.line s.spelled in
    let is = s.spelled.1 in (
      passes.0,
      (
        final_rows validate s.line,
        passes.1,
        record {
          alone = each_read s.line is ∙ s.alone;
          explain = flag_said validate validate_known s.line is (codes "explain") (inr (inr (inl refl))) c.explain s.explain;
          file = files_read s.line is ∙ ap (λ files. Some files) s.operands;
          profile = profile_said validate validate_known s.line is (inr (inl refl)) c.profile s.profile;
        },
      ),
    )
spelled_read words (asks.ValidateEach c) s =
    let passes = spelled_passes validate validate_known words s.line s.spelled in
    let is = s.spelled.1 in (
      passes.0,
      (
        final_rows validate s.line,
        passes.1,
        record {
          each = each_read s.line is ∙ s.each;
          explain = flag_said validate validate_known s.line is (codes "explain") (inr (inr (inl refl))) c.explain s.explain;
          files = files_read s.line is ∙ ap (λ files. Some files) s.operands;
          profile = profile_said validate validate_known s.line is (inr (inl refl)) c.profile s.profile;
        },
      ),
    )

-- words at which the parse fails spell nothing
pub fault_spells_none : (words : List Text) → (fault_of wasmkit_app words ≡ [] → ⊥) → SpellsNone words
fault_spells_none words fails a s = fails (spelled_read words a s).0

-- .. and so do words of which nothing is read
pub unread_spells_none : (words : List Text) → ((a : Asked) → Reads (subcommand_of wasmkit_app words) a → ⊥) → SpellsNone words
unread_spells_none words unread a s = unread a (spelled_read words a s).1
