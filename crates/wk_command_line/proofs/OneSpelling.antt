-- Words spell one command at most.
use Rattle.std.proofs.Common.{◌≡◌, ◌≢◌, ◌∙◌, ◌==◌, ℕ, false, arith, true, Option, Some, None, List, [], ◌∷◌, refl, sym, subst, ap, inl, inr, codes}
use Rattle.std.proofs.lemmas.Bool.Decides.{nat_tests}
use Rattle.clap.specs.Walk.{Text, all_of, first_of, one_of}
use Rattle.wk_edit.proofs.WordLaws.{name_said}
use Rattle.wk_command_line.specs.declared.command.Asked.{Asked}
use Rattle.wk_command_line.specs.declared.command.Asked.TheVariants as asks
use Rattle.wk_command_line.specs.CommandLine.{Form, IsIn, IsSame, IsSpelled, KeepsName, Line, Spells, SpellsOnly, edit, is_given, objdump, operands_of, profile_of, sections, strip, validate, value_of}
use Rattle.wk_command_line.proofs.LineWalks.{word_rows}
use Rattle.wk_command_line.proofs.Known.{Known, edit_known, files_read, final_rows, objdump_known, sections_known, strip_known, validate_known}
use Rattle.wk_command_line.proofs.Spelling.{both_same, operand_said, some_same, some_words, spelled_passes, the_flag, the_setting}

some_text : (a b : Text) → Some a ≡ Some b → a ≡ b
some_text a b e = cc

module _ (f : Form) (known : Known f) (words : List Text) (l m : Line) (s : IsSpelled f words l) (t : IsSpelled f words m) where
  same_rows : final_rows f l ≡ final_rows f m
  same_rows = (both_same f.name f.name (final_rows f l) (final_rows f m) _ _ (spelled_passes f known words l s).1 (spelled_passes f known words m t).1 refl).1

  same_flag : (n : Text) → IsIn n f.flags → is_given n l ≡ is_given n m
  same_flag n i = some_same (is_given n l) (is_given n m) (sym (the_flag f known l s.1 n i) ∙ (ap (one_of n) same_rows ∙ the_flag f known m t.1 n i))

  same_setting : (n : Text) → IsIn n f.settings → value_of n l ≡ value_of n m
  same_setting n i = sym (the_setting f known l s.1 n i) ∙ (ap (first_of n) same_rows ∙ the_setting f known m t.1 n i)

  same_operand : (n : Text) (given other : List Text) (a b : Text) → IsIn n f.operands → operands_of l ≡ given → operands_of m ≡ other
      → first_of n (word_rows f.operands given) ≡ Some a → first_of n (word_rows f.operands other) ≡ Some b → a ≡ b
  same_operand n given other a b i d e g h =
      some_text a b (sym (operand_said f known l s.1 n given a i d g) ∙ (ap (first_of n) same_rows ∙ operand_said f known m t.1 n other b i e h))

same_files : (words : List Text) (l m : Line) → IsSpelled validate words l → IsSpelled validate words m → operands_of l ≡ operands_of m
same_files words l m s t =
    some_words (sym (files_read l s.1) ∙ (ap (all_of (codes "FILE")) (same_rows validate validate_known words l m s t) ∙ files_read m t.1))

one_text : {a b : Text} → a ∷ [] ≡ b ∷ [] → a ≡ b
one_text e = cc

not_both : false ≡ true → ⊥
not_both e = cc

same_name : (v : Option Text) (keep other : Option (List ℕ)) → KeepsName v keep → KeepsName v other → keep ≡ other
same_name None keep other s t = s ∙ sym t
same_name (Some word) None other s t = absurd s
same_name (Some word) (Some name) None s t = absurd t
same_name (Some word) (Some name) (Some also) s t = sym (name_said word name s) ∙ name_said word also t

keeps_as : (v w : Option Text) (keep : Option (List ℕ)) → v ≡ w → KeepsName v keep → KeepsName w keep
keeps_as v w keep e h = subst (λ x. KeepsName x keep) e h

-- ---- the name of a command

name_of_asked : Asked → Text
name_of_asked (asks.Edit c) = edit.name
name_of_asked (asks.Objdump c) = objdump.name
name_of_asked (asks.Sections file) = sections.name
name_of_asked (asks.Strip c) = strip.name
name_of_asked (asks.Validate c) = validate.name
name_of_asked (asks.ValidateEach c) = validate.name

-- the second byte tells the names of commands apart
unfoldable pub second : Text → ℕ
second (x ∷ y ∷ rest) = y
second name = 0

pub differ : (x y : ℕ) → (x == y) ≡ false → x ≢ y
differ x y h = grind (arith, nat_tests)

begins : (words : List Text) (a : Asked) → Spells words a → (rest : List Text) × (words ≡ name_of_asked a ∷ rest)
unfolding name_of_asked
begins words (asks.Edit c) s = (_, s.spelled.0)
begins words (asks.Objdump c) s = (_, s.spelled.0)
begins words (asks.Sections file) s = (_, s.spelled.0)
begins words (asks.Strip c) s = (_, s.spelled.0)
begins words (asks.Validate c) s = (_, s.spelled.0)
begins words (asks.ValidateEach c) s = (_, s.spelled.0)

one_head : (words : List Text) (x y : Text) (xs ys : List Text) → words ≡ x ∷ xs → words ≡ y ∷ ys → x ≡ y
one_head words x y xs ys e f = cc

one_name : (words : List Text) (a b : Asked) → Spells words a → Spells words b → name_of_asked a ≡ name_of_asked b
one_name words a b s t = one_head words _ _ _ _ (begins words a s).1 (begins words b t).1

same_asked : (words : List Text) (a b : Asked) → Spells words a → Spells words b → name_of_asked a ≡ name_of_asked b → IsSame a b
unfolding name_of_asked second
same_asked words (asks.Edit c) (asks.Edit d) s t name =
    let flag = same_flag edit edit_known words s.line t.line s.spelled t.spelled in
    let word = same_operand edit edit_known words s.line t.line s.spelled t.spelled in (
      s.keep_valid ∙ (flag (codes "keep-valid") (inl refl) ∙ sym t.keep_valid),
      s.profile ∙ (ap profile_of (flag (codes "extended") (inr (inl refl))) ∙ sym t.profile),
      word (codes "FILE") _ _ _ _ (inl refl) s.operands t.operands refl refl,
      word (codes "SCRIPT") _ _ _ _ (inr (inl refl)) s.operands t.operands refl refl,
      word (codes "OUT") _ _ _ _ (inr (inr (inl refl))) s.operands t.operands refl refl,
    )
same_asked words (asks.Objdump c) (asks.Objdump d) s t name =
    let flag = same_flag objdump objdump_known words s.line t.line s.spelled t.spelled in
    let parts = rw (flag (codes "headers") (inl refl), flag (codes "details") (inr (inl refl)), flag (codes "code") (inr (inr (inl refl))), flag (codes "uses") (inr (inr (inr (inl refl))))) at s.parts in (
      parts ∙ sym t.parts,
      s.profile ∙ (ap profile_of (flag (codes "extended") (inr (inr (inr (inr (inl refl)))))) ∙ sym t.profile),
      same_operand objdump objdump_known words s.line t.line s.spelled t.spelled (codes "FILE") _ _ _ _ (inl refl) s.operands t.operands refl refl,
    )
same_asked words (asks.Sections file) (asks.Sections other) s t name =
    same_operand sections sections_known words s.line t.line s.spelled t.spelled (codes "FILE") _ _ _ _ (inl refl) s.operands t.operands refl refl
same_asked words (asks.Strip c) (asks.Strip d) s t name =
    let word = same_operand strip strip_known words s.line t.line s.spelled t.spelled in (
      same_name (value_of (codes "keep") t.line) c.keep d.keep
          (keeps_as _ _ c.keep (same_setting strip strip_known words s.line t.line s.spelled t.spelled (codes "keep") (inl refl)) s.keep) t.keep,
      s.profile ∙ (ap profile_of (same_flag strip strip_known words s.line t.line s.spelled t.spelled (codes "extended") (inl refl)) ∙ sym t.profile),
      word (codes "FILE") _ _ _ _ (inl refl) s.operands t.operands refl refl,
      word (codes "OUT") _ _ _ _ (inr (inl refl)) s.operands t.operands refl refl,
    )
same_asked words (asks.Validate c) (asks.Validate d) s t name = (
  s.explain ∙ (same_flag validate validate_known words s.line t.line s.spelled t.spelled (codes "explain") (inr (inr (inl refl))) ∙ sym t.explain),
  s.profile ∙ (ap profile_of (same_flag validate validate_known words s.line t.line s.spelled t.spelled (codes "extended") (inr (inl refl))) ∙ sym t.profile),
  one_text (sym s.operands ∙ (same_files words s.line t.line s.spelled t.spelled ∙ t.operands)),
)
same_asked words (asks.ValidateEach c) (asks.ValidateEach d) s t name = (
  s.explain ∙ (same_flag validate validate_known words s.line t.line s.spelled t.spelled (codes "explain") (inr (inr (inl refl))) ∙ sym t.explain),
  s.profile ∙ (ap profile_of (same_flag validate validate_known words s.line t.line s.spelled t.spelled (codes "extended") (inr (inl refl))) ∙ sym t.profile),
  sym s.operands ∙ (same_files words s.line t.line s.spelled t.spelled ∙ t.operands),
)
same_asked words (asks.Validate c) (asks.ValidateEach d) s t name =
    absurd (not_both (sym s.alone ∙ (same_flag validate validate_known words s.line t.line s.spelled t.spelled (codes "each") (inl refl) ∙ t.each)))
same_asked words (asks.ValidateEach c) (asks.Validate d) s t name =
    absurd (not_both (sym t.alone ∙ (same_flag validate validate_known words t.line s.line t.spelled s.spelled (codes "each") (inl refl) ∙ s.each)))
same_asked words a b s t name = absurd (differ (second (name_of_asked a)) (second (name_of_asked b)) refl (ap second name))

pub spelled_only : (words : List Text) (a : Asked) → Spells words a → SpellsOnly words a
spelled_only words a s = record { spelled = s; only = λ b t. same_asked words a b s t (one_name words a b s t) }
