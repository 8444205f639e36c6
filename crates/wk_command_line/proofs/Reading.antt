-- What the answers for reading the words share.
use Rattle.std.proofs.Common.{◌≡◌, ◌∙◌, true, Option, Some, List, [], ◌∷◌, map, Result, Ok, Err, refl, sym, subst, ap, inl, inr, string_bytes}
use Rattle.std.specs.Prelude.{IfErr, IfOk, IsErrAnd}
use Rattle.std.specs.List.{AllByRecursion}
use Rattle.std.specs.Str.{IsUtf8}
use Rattle.std.specs.declared.string.String.{String}
use Rattle.std.proofs.lemmas.Str.{IsUtf8-string_bytes}
use Rattle.clap.specs.Kinds.{HasKind, IsAmong, Kinds}
use Rattle.clap.specs.Values.{kind_of}
use Rattle.clap.specs.Walk.{Row, Text}
use Rattle.clap.specs.Simple.{App, HasMatchesOf, is_simple, subcommand_of, subcommand_rows_of}
use Rattle.clap.specs.Faults.{fault_of, is_simple_and_free}
use Rattle.clap.specs.declared.error.Error.{Error}
use Rattle.clap.specs.declared.error.kind.ErrorKind.{ErrorKind}
use Rattle.clap.specs.declared.parser.matches.ArgMatches.{ArgMatches}
use Rattle.wk_command_line.specs.declared.command.Asked.{Asked}
use Rattle.wk_command_line.specs.declared.command.Asked.TheVariants as asks
use Rattle.wk_command_line.specs.declared.fault.WordsFault.{WordsFault}
use Rattle.wk_command_line.specs.declared.fault.WordsFault.TheVariants.{CommandLine, BadWords, Memory}
use Rattle.wk_command_line.specs.CommandLine.{SpellsOnly, edit, objdump, sections, strip, validate}
use Rattle.wk_command_line.specs.Faults.{IsOfParser, RefusesWords}
use Rattle.wk_command_line.specs.Syntax.{Reads, ReadsEach, ReadsJudging, ReadsValidate, Unreadable, wasmkit_app}
use Rattle.wk_command_line.proofs.FirstWord.{is_free_program, is_simple_program}
use Rattle.wk_command_line.proofs.OneSpelling.{differ, second, spelled_only}
use Rattle.wk_command_line.proofs.Spelling.{both_same, fault_spells_none, read_spelled, unread_spells_none}

pub words_utf8 : {Z : Type 0} (words : List (String Z)) → AllByRecursion IsUtf8 (map string_bytes words)
words_utf8 [] = tt
words_utf8 (w ∷ ws) = (IsUtf8-string_bytes w, words_utf8 ws)

-- a fault that is passed on
pub unreadable_up : {T C D : Type 0} (r : Result T WordsFault) (fault : WordsFault) (P : C → Type 0) (Q : D → Type 0) → IsErrAnd r (λ f. f ≡ fault)
    → (((c : C) → P c → ⊥) → (d : D) → Q d → ⊥) → Unreadable P fault → IfErr r (Unreadable Q)
unreadable_up (Ok x) fault P Q is step p = tt
unreadable_up (Err f) fault P Q is step p = go f (subst (Unreadable P) (sym is) p)
  where
    go : (f : WordsFault) → Unreadable P f → Unreadable Q f
    go (CommandLine complaint) p = p
    go BadWords p = step p
    go Memory p = p

-- nothing is read of the matches of `validate`
module _ (rows : List Row) (found : Option (Text × List Row)) (is : found ≡ Some (validate.name, rows)) where
  -- the second byte tells the name from those of other commands
  named_as : (name : Text) (other : List Row) → found ≡ Some (name, other) → second validate.name ≡ second name
  named_as name other e = ap second (both_same validate.name name rows other found found is e refl).0

  rows_as : (other : List Row) → found ≡ Some (validate.name, other) → other ≡ rows
  rows_as other e = (both_same validate.name validate.name other rows found found e is refl).1

  unread_judging : ((a : Asked) → ReadsJudging rows a → ⊥) → (a : Asked) → Reads found a → ⊥
  unfolding second
  unread_judging none (asks.Edit c) r = differ (second validate.name) (second edit.name) refl (named_as edit.name r.0 r.1)
  unread_judging none (asks.Objdump c) r = differ (second validate.name) (second objdump.name) refl (named_as objdump.name r.0 r.1)
  unread_judging none (asks.Sections file) r = differ (second validate.name) (second sections.name) refl (named_as sections.name r.0 r.1)
  unread_judging none (asks.Strip c) r = differ (second validate.name) (second strip.name) refl (named_as strip.name r.0 r.1)
  unread_judging none (asks.Validate c) r = none (asks.Validate c) (subst (λ rs. ReadsValidate rs c) (rows_as r.0 r.1) r.2)
  unread_judging none (asks.ValidateEach c) r = none (asks.ValidateEach c) (subst (λ rs. ReadsEach rs c) (rows_as r.0 r.1) r.2)

pub judging_up : {T : Type 0} (r : Result T WordsFault) (rows : List Row) (found : Option (Text × List Row)) → found ≡ Some (validate.name, rows)
    → IfErr r (Unreadable (ReadsJudging rows)) → IfErr r (Unreadable (Reads found))
judging_up (Ok x) rows found is p = tt
judging_up (Err f) rows found is p = go f p
  where
    go : (f : WordsFault) → Unreadable (ReadsJudging rows) f → Unreadable (Reads found) f
    go (CommandLine complaint) p = p
    go BadWords p = unread_judging rows found is p
    go Memory p = p

among_some : (k : ErrorKind) (kinds : Kinds) → IsAmong k kinds → kinds ≡ [] → ⊥
among_some k [] i e = i
among_some k (x ∷ xs) i e = cc

-- the parser fails
pub parse_fails : {T : Type 0} (words : List Text) (app : App) (e : Error) (r : Result T WordsFault) → app ≡ wasmkit_app
    → (is_simple_and_free app ≡ true → HasKind (fault_of app words) e) → IsErrAnd r (λ f. IsOfParser e f) → IfErr r (RefusesWords words)
parse_fails words app e (Ok x) is kinds why = tt
parse_fails words app e (Err f) is kinds why = go f why
  where
    fails : HasKind (fault_of wasmkit_app words) e
    fails = subst (λ a. HasKind (fault_of a words) e) is (kinds (ap is_simple_and_free is ∙ is_free_program))

    go : (f : WordsFault) → IsOfParser e f → RefusesWords words f
    go (CommandLine complaint) p = elim fails [
      | inl memory ↦ absurd (p.1 memory)
      | inr among ↦ fault_spells_none words (among_some (kind_of e) (fault_of wasmkit_app words) among)
    ]
    go BadWords p = absurd p
    go Memory p = tt

module _ (words : List Text) (app : App) (m : ArgMatches) (is : app ≡ wasmkit_app) (matches : HasMatchesOf app words m) where
  rows_are : subcommand_rows_of m ≡ subcommand_of wasmkit_app words
  rows_are = (matches (ap is_simple is ∙ is_simple_program)).1 ∙ ap (λ a. subcommand_of a words) is

  -- the command is read
  pub parsed_spells : AllByRecursion IsUtf8 words → (is_simple_and_free app ≡ true → fault_of app words ≡ []) → (r : Result Asked WordsFault)
      → IfOk r (Reads (subcommand_rows_of m)) → IfOk r (SpellsOnly words)
  parsed_spells utf8 passes (Ok a) reads =
      let none : fault_of wasmkit_app words ≡ [] = ap (λ x. fault_of x words) (sym is) ∙ passes (ap is_simple_and_free is ∙ is_free_program) in
      spelled_only words a (read_spelled words utf8 none a (subst (λ found. Reads found a) rows_are reads))
  parsed_spells utf8 passes (Err f) reads = tt

  -- .. or there is none
  pub parsed_refuses : (r : Result Asked WordsFault) → IfErr r (Unreadable (Reads (subcommand_rows_of m))) → IfErr r (RefusesWords words)
  parsed_refuses (Ok a) unread = tt
  parsed_refuses (Err f) unread = go f unread
    where
      go : (f : WordsFault) → Unreadable (Reads (subcommand_rows_of m)) f → RefusesWords words f
      go (CommandLine complaint) p = absurd p
      go BadWords p = unread_spells_none words (λ a reads. p a (subst (λ found. Reads found a) (sym rows_are) reads))
      go Memory p = p
