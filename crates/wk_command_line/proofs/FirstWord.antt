-- The first word names the command.
use Rattle.std.proofs.Common.{◌≡◌, ◌⊎◌, ◌∙◌, ◌==◌, Bool, true, false, Some, None, List, [], ◌∷◌, ◌++◌, refl, sym, subst, ap, inl, inr, codes, append-nil, append_assoc}
use Rattle.std.specs.Prelude.{find}
use Rattle.std.specs.List.{fold, AllByRecursion}
use Rattle.std.specs.Str.{bytes_eq, IsUtf8}
use Rattle.std.proofs.lemmas.Slice.Eq.{bytes_eq-Decides}
use Rattle.clap.specs.Lexer.{long_of, short_of}
use Rattle.clap.specs.Walk.{Names, Rule, Text, Walk, answers_to, arg_by_long, arg_by_short, idle, nothing_held, rows_after, walk, walk_from, walked}
use Rattle.clap.specs.Simple.{App, Shape, built, filled, is_simple, label_of, names_of, subcommand_of, version_rule, with_index}
use Rattle.clap.specs.Faults.{defaults_fault, fault_of, is_simple_and_free, level_fault, long_fault, turn_fault, walk_fault, word_fault}
use Rattle.clap.proofs.FaultLemmas.{stopped_fault}
use Rattle.clap.proofs.OnLiterals.{clap_on_literals}
use Rattle.clap.specs.declared.error.kind.ErrorKind.TheVariants as kind
use Rattle.wk_command_line.specs.CommandLine.{Form, dashes, edit, objdump, sections, strip, validate}
use Rattle.wk_command_line.specs.Syntax.{wasmkit_app}
use Rattle.wk_command_line.proofs.WordSteps.{first_none, or_else-nil, built_help}
use Rattle.wk_command_line.proofs.Looks.{IsOption, IsShort, Look, free_plain, long_option, look}
use Rattle.wk_command_line.proofs.Refusals.{help_requests, long_requests, short_apart, short_fails, HasNoShort, Requests}
use Rattle.wk_command_line.proofs.Forms.{built_shape}

pub is_free_program : is_simple_and_free wasmkit_app ≡ true
unfolding clap_on_literals
is_free_program = refl

pub is_simple_program : is_simple wasmkit_app ≡ true
is_simple_program = refl

abbrev program : App
program = built wasmkit_app

abbrev top : Shape
top = program.top

abbrev commands : Names
commands = names_of program

abbrev start : Walk
start = walk_from nothing_held

-- ---- a command

stopped_walk : (c : List Rule) (names : Names) (w : Walk) (p : Text) (before words : List Text)
    → fold (walked c names) (record w { stopped = Some (p, before) }) words ≡ record w { stopped = Some (p, before ++ words) }
unfolding walked
stopped_walk c names w p before [] = ap (λ t. record w { stopped = Some (p, t) }) (sym (append-nil before))
stopped_walk c names w p before (x ∷ xs) =
    stopped_walk c names w p (before ++ x ∷ []) xs ∙ ap (λ t. record w { stopped = Some (p, t) }) (append_assoc before (x ∷ []) xs)

-- the first word is its name
pub record IsNamed (f : Form) : Type 0 where
  pub turn : turn_fault top commands start f.name ≡ []
  pub step : walked top.rules commands start f.name ≡ record start { stopped = Some (f.name, []) }
  pub found : find (λ s. answers_to f.name (label_of s)) program.subs ≡ Some (built_shape f)
  pub name : (built_shape f).name ≡ f.name

top_defaults : defaults_fault [] top.rules ≡ []
unfolding defaults_fault
top_defaults = refl

module _ (f : Form) (named : IsNamed f) (words : List Text) where
  walk_is : walk top.rules commands nothing_held (f.name ∷ words) ≡ record start { stopped = Some (f.name, words) }
  walk_is = ap (λ w. fold (walked top.rules commands) w words) named.step ∙ stopped_walk top.rules commands start f.name [] words

  passed : walk_fault top commands start (f.name ∷ words) ≡ []
  unfolding walk_fault
  passed = rw (named.turn, named.step) (stopped_fault top commands start (f.name, []) words)

  pub fault_is : fault_of wasmkit_app (f.name ∷ words) ≡ level_fault (built_shape f) [] nothing_held words false []
  fault_is = rw (walk_is, passed, named.found, top_defaults) (or_else-nil (level_fault (built_shape f) [] nothing_held words false []))

  pub subcommand_is : subcommand_of wasmkit_app (f.name ∷ words) ≡ Some (f.name, rows_after (built_shape f).rules [] words)
  subcommand_is = rw (walk_is, named.found) refl

-- ---- the commands

pub edit_named : IsNamed edit
unfolding walked
edit_named = record { turn = refl; step = refl; found = refl; name = refl }

pub objdump_named : IsNamed objdump
unfolding walked
objdump_named = record { turn = refl; step = refl; found = refl; name = refl }

pub sections_named : IsNamed sections
unfolding walked
sections_named = record { turn = refl; step = refl; found = refl; name = refl }

pub strip_named : IsNamed strip
unfolding walked
strip_named = record { turn = refl; step = refl; found = refl; name = refl }

pub validate_named : IsNamed validate
unfolding walked
validate_named = record { turn = refl; step = refl; found = refl; name = refl }

-- ---- other words

abbrev pub IsCommand : Form → Type 0
IsCommand f = (f ≡ edit) ⊎ ((f ≡ objdump) ⊎ ((f ≡ sections) ⊎ ((f ≡ strip) ⊎ (f ≡ validate))))

abbrev built_version : Rule
built_version = with_index 1 (filled version_rule)

version_requests : Requests built_version
version_requests = record { alone = refl; fails = λ again rows none. let bad : kind.DisplayVersion ∷ [] ≡ [] = none in cc }

top_shorts : HasNoShort top.rules
top_shorts x = go (104 == x) refl (86 == x) refl
  where
    go : (b : Bool) → (104 == x) ≡ b → (d : Bool) → (86 == x) ≡ d → (arg_by_short top.rules x ≡ None) ⊎ ((a : Rule) × (arg_by_short top.rules x ≡ Some a) × Requests a)
    go true e d f = inr (built_help, rw e refl, help_requests)
    go false e true f = inr (built_version, rw (e, f) refl, version_requests)
    go false e false f = inl (rw (e, f) refl)

top_longs : (n : Text) → (arg_by_long top.rules n ≡ None) ⊎ ((a : Rule) × (arg_by_long top.rules n ≡ Some a) × Requests a)
top_longs n = go (bytes_eq (codes "help") n) refl (bytes_eq (codes "version") n) refl
  where
    go : (b : Bool) → bytes_eq (codes "help") n ≡ b → (d : Bool) → bytes_eq (codes "version") n ≡ d
        → (arg_by_long top.rules n ≡ None) ⊎ ((a : Rule) × (arg_by_long top.rules n ≡ Some a) × Requests a)
    go true e d f = inr (built_help, rw e refl, help_requests)
    go false e true f = inr (built_version, rw (e, f) refl, version_requests)
    go false e false f = inl (rw (e, f) refl)

-- which command the word names, if any
abbrev Which : Text → Type 0
Which w = ((f : Form) × IsCommand f × (w ≡ f.name)) ⊎ ((w ≡ codes "help") ⊎ (find (answers_to w) commands ≡ None))

same : (x y : Text) → bytes_eq x y ≡ true → y ≡ x
same x y e = sym ((bytes_eq-Decides x y).0 e)

which : (w : Text) → Which w
which w = go (bytes_eq (codes "edit") w) (bytes_eq (codes "objdump") w) (bytes_eq (codes "sections") w) (bytes_eq (codes "strip") w) (bytes_eq (codes "validate") w) (bytes_eq (codes "help") w) refl refl refl refl refl refl
  where
    go : (b0 b1 b2 b3 b4 b5 : Bool) → bytes_eq (codes "edit") w ≡ b0 → bytes_eq (codes "objdump") w ≡ b1 → bytes_eq (codes "sections") w ≡ b2 → bytes_eq (codes "strip") w ≡ b3 → bytes_eq (codes "validate") w ≡ b4 → bytes_eq (codes "help") w ≡ b5 → Which w
    go true b1 b2 b3 b4 b5 e0 e1 e2 e3 e4 e5 = inl (edit, inl refl, same (codes "edit") w e0)
    go false true b2 b3 b4 b5 e0 e1 e2 e3 e4 e5 = inl (objdump, inr (inl refl), same (codes "objdump") w e1)
    go false false true b3 b4 b5 e0 e1 e2 e3 e4 e5 = inl (sections, inr (inr (inl refl)), same (codes "sections") w e2)
    go false false false true b4 b5 e0 e1 e2 e3 e4 e5 = inl (strip, inr (inr (inr (inl refl))), same (codes "strip") w e3)
    go false false false false true b5 e0 e1 e2 e3 e4 e5 = inl (validate, inr (inr (inr (inr (refl)))), same (codes "validate") w e4)
    go false false false false false true e0 e1 e2 e3 e4 e5 = inr (inl (same (codes "help") w e5))
    go false false false false false false e0 e1 e2 e3 e4 e5 = inr (inr (rw (e0, e1, e2, e3, e4, e5) refl))

dashes_fail : (words : List Text) → fault_of wasmkit_app (dashes ∷ words) ≡ [] → ⊥
unfolding walk_fault walked defaults_fault
dashes_fail [] none = let bad : kind.MissingSubcommand ∷ [] ≡ [] = none in cc
dashes_fail (x ∷ xs) none = cc

first_turn : (w : Text) (words : List Text) → fault_of wasmkit_app (w ∷ words) ≡ [] → turn_fault top commands start w ≡ []
unfolding walk_fault
first_turn w words none = first_none (turn_fault top commands start w) _ (first_none _ _ none)

help_fails : (words : List Text) → fault_of wasmkit_app (codes "help" ∷ words) ≡ [] → ⊥
help_fails words none = let bad : kind.DisplayHelp ∷ kind.InvalidSubcommand ∷ [] ≡ [] = first_turn (codes "help") words none in cc

module _ (w : Text) (absent : find (answers_to w) commands ≡ None) (utf8 : IsUtf8 w) (turn : turn_fault top commands start w ≡ []) where
  free_fails : (bytes_eq w dashes ≡ false) × (long_of w ≡ None) × (short_of w ≡ None) → ⊥
  free_fails plain = let bad : kind.UnknownArgument ∷ kind.InvalidSubcommand ∷ [] ≡ [] = rw (absent, plain.0, plain.1, plain.2) at turn in cc

  word_none : word_fault top commands false idle w nothing_held ≡ []
  word_none = first_none _ _ turn

  long_fails : IsOption w → ⊥
  long_fails o = go (top_longs o.name) (rw (absent, o.apart, o.long) at word_none)
    where
      go : (arg_by_long top.rules o.name ≡ None) ⊎ ((a : Rule) × (arg_by_long top.rules o.name ≡ Some a) × Requests a)
          → long_fault top.rules false (arg_by_long top.rules o.name) o.value nothing_held ≡ [] → ⊥
      go (inl found) none = let bad : kind.UnknownArgument ∷ [] ≡ [] = rw found at none in cc
      go (inr asks) none = long_requests top.rules false asks.0 o.value nothing_held asks.2 (rw asks.1 at none)

  bundle_fails : IsShort w → ⊥
  bundle_fails short = short_fails top.rules false w nothing_held refl top_shorts utf8 short (rw (absent, short_apart w short) at word_none)

other_fails : (w : Text) (words : List Text) → find (answers_to w) commands ≡ None → IsUtf8 w → fault_of wasmkit_app (w ∷ words) ≡ [] → Look w → ⊥
other_fails w words absent utf8 none (inl plain) = free_fails w absent utf8 (first_turn w words none) (free_plain w plain)
other_fails w words absent utf8 none (inr (inl double)) = dashes_fail words (subst (λ (x : Text). fault_of wasmkit_app (x ∷ words) ≡ []) double none)
other_fails w words absent utf8 none (inr (inr (inl long))) = long_fails w absent utf8 (first_turn w words none) (long_option w long).0
other_fails w words absent utf8 none (inr (inr (inr bundle))) = bundle_fails w absent utf8 (first_turn w words none) bundle

-- words that pass begin with the name of a command
pub first_word : (words : List Text) → AllByRecursion IsUtf8 words → fault_of wasmkit_app words ≡ [] → (f : Form) × IsCommand f × (rest : List Text) × (words ≡ f.name ∷ rest)
unfolding walk_fault defaults_fault
first_word [] utf8 none = let bad : kind.MissingSubcommand ∷ [] ≡ [] = none in cc
first_word (w ∷ words) utf8 none = elim (which w) [
  | inl c ↦ (c.0, c.1, words, ap (λ (x : Text). x ∷ words) c.2)
  | inr (inl e) ↦ absurd (help_fails words (subst (λ (x : Text). fault_of wasmkit_app (x ∷ words) ≡ []) e none))
  | inr (inr absent) ↦ absurd (other_fails w words absent utf8.0 none (look w))
]
