-- A walk over all the words of a command, and what its end asks.
use Rattle.std.proofs.Common.{◌≡◌, ◌⊎◌, ◌∙◌, ℕ, ◌+◌, Bool, true, false, Some, None, List, [], ◌∷◌, ◌++◌, min, refl, sym, subst, ap}
use Rattle.std.specs.List.{fold}
use Rattle.std.specs.Str.{bytes_eq}
use Rattle.clap.specs.Lexer.{long_of, usize_max}
use Rattle.clap.specs.Kinds.{Kinds, or_else}
use Rattle.clap.specs.Walk.{Held, Row, Rule, Text, Waiting, Walk, option, arg_by_id, arg_by_index, arg_by_long, is_pending, nothing_held, settled, walked, with_default}
use Rattle.clap.specs.Simple.{Shape}
use Rattle.clap.specs.Faults.{check_fault, defaults_fault, level_fault, settle_fault, turn_fault, walk_fault}
use Rattle.clap.specs.declared.error.kind.ErrorKind.TheVariants as kind
use Rattle.wk_command_line.specs.CommandLine.{Form, IsIn, dashes, option_word}
use Rattle.wk_command_line.proofs.WordSteps.{at, at_open, held_open, built_flag, built_help, built_setting, built_word, extend, first_none, second_none, has_pending, held, none_pending, pending_none, settle_is, settled_is, unless_false, IsPendingOf, Pending}
use Rattle.wk_command_line.proofs.Refusals.{HasNoShort}

-- ---- what a command's arguments answer

abbrev pub HasOperands : List Rule → ℕ → List Text → Type 0
HasOperands c position [] = arg_by_index c position ≡ None
HasOperands c position (id ∷ names) = (arg_by_index c position ≡ Some (built_word id position)) × (arg_by_id c id ≡ Some (built_word id position))
    × HasOperands c (min (position + 1) usize_max) names

pub record Answers (f : Form) (s : Shape) : Type 0 where
  pub again : s.args_override_self ≡ false
  pub leaf : s.is_leaf ≡ true
  pub flags : (n : Text) → IsIn n f.flags → arg_by_long s.rules n ≡ Some (built_flag n)
  pub settings : (n : Text) → IsIn n f.settings → (arg_by_long s.rules n ≡ Some (built_setting n)) × (arg_by_id s.rules n ≡ Some (built_setting n))
  pub others : (n : Text) → IsIn n f.flags ⊎ (IsIn n f.settings ⊎ ((arg_by_long s.rules n ≡ None) ⊎ (arg_by_long s.rules n ≡ Some built_help)))
  pub shorts : HasNoShort s.rules
  pub operands : HasOperands s.rules 1 f.operands
  pub names : (n : Text) → IsIn n f.flags ⊎ IsIn n f.settings → (bytes_eq (option_word n) dashes ≡ false) × (long_of (option_word n) ≡ Some (n, None))
  pub values : (n v : Text) → IsIn n f.settings → (bytes_eq (option_word n ++ 61 ∷ v) dashes ≡ false) × (long_of (option_word n ++ 61 ∷ v) ≡ Some (n, Some v))

-- ---- a walk and its end

-- what the rows at the end are asked
abbrev pub end_of : Shape → List Row → Kinds
end_of s rows = or_else (defaults_fault rows s.rules) (check_fault s (fold with_default rows s.rules) false)

abbrev pub end_fault : Shape → Held → Kinds
end_fault s h = or_else (settle_fault s.rules s.args_override_self h) (end_of s (settled s.rules h).rows)

abbrev pub run_fault : Shape → Walk → List Text → Kinds
run_fault s w [] = end_fault s w.held
run_fault s w (word ∷ words) = or_else (turn_fault s [] w word) (run_fault s (walked s.rules [] w word) words)

abbrev pub run_rows : Shape → Walk → List Text → List Row
run_rows s w words = (settled s.rules (fold (walked s.rules []) w words).held).rows

or_else_assoc : (a b c : Kinds) → or_else (or_else a b) c ≡ or_else a (or_else b c)
or_else_assoc [] b c = refl
or_else_assoc (k ∷ ks) b c = refl

run_is : (s : Shape) (w : Walk) (words : List Text) → or_else (walk_fault s [] w words) (end_fault s (fold (walked s.rules []) w words).held) ≡ run_fault s w words
unfolding walk_fault
run_is s w [] = refl
run_is s w (word ∷ words) = or_else_assoc (turn_fault s [] w word) _ _ ∙ ap (or_else (turn_fault s [] w word)) (run_is s (walked s.rules [] w word) words)

pub level_is : (s : Shape) (words : List Text) → level_fault s [] nothing_held words false [] ≡ run_fault s (at [] None 1 false) words
level_is s words = run_is s (at [] None 1 false) words

-- the walk passes, and these are its rows
pub record Reaches (s : Shape) (w : Walk) (words : List Text) (rows : List Row) : Type 0 where
  pub faults : run_fault s w words ≡ end_of s rows
  pub are : run_rows s w words ≡ rows

pub reach : (s : Shape) (w next : Walk) (word : Text) (words : List Text) (rows : List Row) → turn_fault s [] w word ≡ [] → walked s.rules [] w word ≡ next
    → Reaches s next words rows → Reaches s w (word ∷ words) rows
reach s w next word words rows turn step h = record {
  faults = rw (turn, step) h.faults;
  are = ap (λ (x : Walk). run_rows s x words) step ∙ h.are;
}

pub reach_end : (s : Shape) → s.args_override_self ≡ false → (rows : List Row) (p : Pending) (position : ℕ) (trailing : Bool) → IsPendingOf s.rules p → has_pending rows p ≡ false
    → Reaches s (at rows p position trailing) [] (extend rows p)
reach_end s again rows p position trailing of has = record {
  faults = rw (again, settle_is s.rules rows p of, pending_none rows p has, settled_is s.rules rows p of has) refl;
  are = settled_is s.rules rows p of has;
}

-- at the end nothing is pending twice
pub end_pending : (s : Shape) → s.args_override_self ≡ false → (rows : List Row) (p : Pending) (position : ℕ) (trailing : Bool) → IsPendingOf s.rules p
    → run_fault s (at rows p position trailing) [] ≡ [] → has_pending rows p ≡ false
end_pending s again rows p position trailing of none =
    let settles : settle_fault s.rules false (held rows p) ≡ [] = first_none _ _ (rw again at none) in
    none_pending rows p (sym (settle_is s.rules rows p of) ∙ settles)

-- where all words pass, so do the first and the others
pub turn_none : (s : Shape) (w : Walk) (word : Text) (words : List Text) → run_fault s w (word ∷ words) ≡ [] → turn_fault s [] w word ≡ []
turn_none s w word words none = first_none (turn_fault s [] w word) (run_fault s (walked s.rules [] w word) words) none

pub rest_none : (s : Shape) (w next : Walk) (word : Text) (words : List Text) → walked s.rules [] w word ≡ next → run_fault s w (word ∷ words) ≡ [] → run_fault s next words ≡ []
rest_none s w next word words step none =
    subst (λ (x : Walk). run_fault s x words ≡ []) step (second_none (turn_fault s [] w word) (run_fault s (walked s.rules [] w word) words) none)

pub word_as : (s : Shape) (w : Walk) (a b : Text) (words : List Text) → a ≡ b → run_fault s w (a ∷ words) ≡ [] → run_fault s w (b ∷ words) ≡ []
word_as s w a b words e none = subst (λ (x : Text). run_fault s w (x ∷ words) ≡ []) e none

-- after `--` no value comes for an option that waits for it
abbrev trailing_at : Held → Waiting → ℕ → Walk
trailing_at h waiting position = record { held = h; waiting = waiting; position = position; is_trailing = true; stopped = None }

open_word : (s : Shape) → s.is_leaf ≡ true → (h : Held) (waiting : Waiting) (position : ℕ) (names : List Text) → HasOperands s.rules position names → (word : Text)
    → (settle_fault s.rules s.args_override_self h ≡ [] → ⊥) → turn_fault s [] (trailing_at h waiting position) word ≡ [] → ⊥
open_word s leaf h waiting position [] has word bad none = let no : kind.UnknownArgument ∷ [] ≡ [] = rw (has, leaf) at none in cc
open_word s leaf h waiting position (id ∷ names) has word bad none =
    bad (sym (unless_false (is_pending (built_word id position) h.pending) _ _ refl) ∙ rw has.0 at none)

open_words : (s : Shape) → s.is_leaf ≡ true → (h : Held) (waiting : Waiting) (position : ℕ) (names : List Text) → HasOperands s.rules position names → (words : List Text)
    → (settle_fault s.rules s.args_override_self h ≡ [] → ⊥) → run_fault s (trailing_at h waiting position) words ≡ [] → ⊥
open_words s leaf h waiting position names has [] bad none = bad (first_none _ (end_of s (settled s.rules h).rows) none)
open_words s leaf h waiting position names has (w ∷ ws) bad none = open_word s leaf h waiting position names has w bad (turn_none s (trailing_at h waiting position) w ws none)

open_walk_dashes : (s : Shape) (rows : List Row) (id : Text) (position : ℕ) → walked s.rules [] (at_open rows id position) dashes ≡ trailing_at (held_open rows id) (option id) position
unfolding walked
open_walk_dashes s rows id position = refl

pub open_dashes : (s : Shape) → s.is_leaf ≡ true → (rows : List Row) (id : Text) (position : ℕ) (names : List Text) → HasOperands s.rules position names → (words : List Text)
    → (settle_fault s.rules s.args_override_self (held_open rows id) ≡ [] → ⊥) → run_fault s (at_open rows id position) (dashes ∷ words) ≡ [] → ⊥
open_dashes s leaf rows id position names has words bad none =
    open_words s leaf (held_open rows id) (option id) position names has words bad
    (rest_none s (at_open rows id position) _ dashes words (open_walk_dashes s rows id position) none)
