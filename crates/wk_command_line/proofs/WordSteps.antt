-- One word of a walk over the words of a command.
use Rattle.std.proofs.Common.{◌≡◌, ◌⊎◌, ◌∙◌, ◌&&◌, ◌||◌, ℕ, ◌+◌, Bool, true, false, Option, Some, None, List, [], ◌∷◌, ◌++◌, min, refl, ap, inl, inr, codes}
use Rattle.std.specs.Prelude.{if◌then◌else◌}
use Rattle.std.specs.Str.{bytes_eq}
use Rattle.clap.specs.Lexer.{long_of, short_of, usize_max}
use Rattle.clap.specs.Kinds.{Kinds, or_else}
use Rattle.clap.specs.Walk.{Held, Row, Rule, Text, Walk, idle, option, arg_by_id, arg_by_index, arg_by_long, has_row, is_pending, settled_rows, used, value, walked, word_met, with_values, without}
use Rattle.clap.specs.Simple.{Shape, filled, help_rule, with_index}
use Rattle.clap.specs.Faults.{repeat_fault, settle_fault, turn_fault, use_fault, word_fault}
use Rattle.clap.specs.declared.builder.value_parser.Reading.TheVariants as reading
use Rattle.clap.specs.declared.parser.matches.ValueSource.TheVariants.{CommandLine}
use Rattle.clap.specs.declared.error.kind.ErrorKind.TheVariants as kind
use Rattle.wk_command_line.specs.CommandLine.{dashes}
use Rattle.wk_command_line.specs.Syntax.{flag_rule, setting_rule, word_rule}
use Rattle.wk_command_line.proofs.Names.{same_text}
use Rattle.wk_command_line.proofs.Rows.{flag_row, text_row, with_used}

-- ---- the arguments, as they are built

abbrev pub built_flag : Text → Rule
built_flag name = with_index 1 (filled (flag_rule name))

abbrev pub built_setting : Text → Rule
built_setting name = with_index 1 (filled (setting_rule name))

abbrev pub built_word : Text → ℕ → Rule
built_word name position = with_index position (filled (word_rule name))

abbrev pub built_help : Rule
built_help = with_index 1 (filled help_rule)

-- ---- lists of faults

pub or_else-nil : (a : Kinds) → or_else a [] ≡ a
or_else-nil [] = refl
or_else-nil (k ∷ ks) = refl

twice_nil : (a b : Kinds) → or_else (or_else a (or_else b [])) [] ≡ or_else a b
twice_nil a b = or_else-nil (or_else a (or_else b [])) ∙ ap (or_else a) (or_else-nil b)

pub first_none : (a b : Kinds) → or_else a b ≡ [] → a ≡ []
first_none [] b h = refl
first_none (k ∷ ks) b h = h

pub second_none : (a b : Kinds) → or_else a b ≡ [] → b ≡ []
second_none [] b h = h
second_none (k ∷ ks) b h = cc

-- ---- states

abbrev pub Pending : Type 0
Pending = Option (Text × Text)

abbrev pub pending_values : Pending → Option (Text × List Text)
pending_values None = None
pending_values (Some p) = Some (p.0, p.1 ∷ [])

abbrev pub held : List Row → Pending → Held
held rows p = record { rows = rows; pending = pending_values p; skip = 0 }

-- between two words, where nothing waits
abbrev pub at : List Row → Pending → ℕ → Bool → Walk
at rows p position trailing = record { held = held rows p; waiting = idle; position = position; is_trailing = trailing; stopped = None }

-- the option of this name waits for its value
abbrev pub held_open : List Row → Text → Held
held_open rows name = record { rows = rows; pending = Some (name, []); skip = 0 }

abbrev pub at_open : List Row → Text → ℕ → Walk
at_open rows name position = record { held = held_open rows name; waiting = option name; position = position; is_trailing = false; stopped = None }

-- the rows with what is pending
abbrev pub extend : List Row → Pending → List Row
extend rows None = rows
extend rows (Some p) = rows ++ text_row p.0 p.1 ∷ []

abbrev pub has_pending : List Row → Pending → Bool
has_pending rows None = false
has_pending rows (Some p) = has_row p.0 rows

-- an argument that takes one value, as text
pub record TakesText (c : List Rule) (id : Text) : Type 0 where
  pub rule : Rule
  pub found : arg_by_id c id ≡ Some rule
  pub fault : (v : Text) (rows : List Row) → use_fault false rule (v ∷ []) rows ≡ repeat_fault false id rows
  pub uses : (v : Text) (rows : List Row) → used rule (v ∷ []) rows ≡ with_values id reading.AsWritten CommandLine (v ∷ []) (without id rows)

pub setting_text : (c : List Rule) (id : Text) → arg_by_id c id ≡ Some (built_setting id) → TakesText c id
setting_text c id h = record { rule = built_setting id; found = h; fault = λ v rows. or_else-nil (repeat_fault false id rows); uses = λ v rows. refl }

pub word_text : (c : List Rule) (id : Text) (position : ℕ) → arg_by_id c id ≡ Some (built_word id position) → TakesText c id
word_text c id position h = record { rule = built_word id position; found = h; fault = λ v rows. or_else-nil (repeat_fault false id rows); uses = λ v rows. refl }

abbrev pub IsPendingOf : List Rule → Pending → Type 0
IsPendingOf c None = Unit {0}
IsPendingOf c (Some p) = TakesText c p.0

abbrev pub pending_fault : List Row → Pending → Kinds
pending_fault rows None = []
pending_fault rows (Some p) = repeat_fault false p.0 rows

pub settle_is : (c : List Rule) (rows : List Row) (p : Pending) → IsPendingOf c p → settle_fault c false (held rows p) ≡ pending_fault rows p
settle_is c rows None h = refl
settle_is c rows (Some p) h = rw h.found (h.fault p.1 rows)

no_repeat : (id : Text) (rows : List Row) → has_row id rows ≡ false → repeat_fault false id rows ≡ []
no_repeat id rows h = rw h refl

pub repeat_none : (id : Text) (rows : List Row) → repeat_fault false id rows ≡ [] → has_row id rows ≡ false
repeat_none id rows h = go (has_row id rows) refl
  where
    go : (b : Bool) → has_row id rows ≡ b → has_row id rows ≡ false
    go true e = let bad : kind.ArgumentConflict ∷ [] ≡ [] = rw e at h in cc
    go false e = e

pub pending_none : (rows : List Row) (p : Pending) → has_pending rows p ≡ false → pending_fault rows p ≡ []
pending_none rows None h = refl
pending_none rows (Some p) h = no_repeat p.0 rows h

pub none_pending : (rows : List Row) (p : Pending) → pending_fault rows p ≡ [] → has_pending rows p ≡ false
none_pending rows None h = refl
none_pending rows (Some p) h = repeat_none p.0 rows h

pub settled_is : (c : List Rule) (rows : List Row) (p : Pending) → IsPendingOf c p → has_pending rows p ≡ false → settled_rows c (pending_values p) rows ≡ extend rows p
settled_is c rows None h has = refl
settled_is c rows (Some p) h has = rw h.found (h.uses p.1 rows ∙ with_used p.0 p.1 rows has)

-- ---- words

-- the word is no option, or follows `--`
abbrev pub IsPlain : Text → Bool → Type 0
IsPlain word trailing = (trailing ≡ true) ⊎ ((bytes_eq word dashes ≡ false) × (long_of word ≡ None) × (short_of word ≡ None))

pub plain_met : (c : List Rule) (position : ℕ) (word : Text) (trailing : Bool) (h : Held) → IsPlain word trailing → word_met c [] trailing idle position word h ≡ (h, value)
plain_met c position word trailing h (inl e) = rw e refl
plain_met c position word true h (inr e) = refl
plain_met c position word false h (inr e) = rw (e.0, e.1, e.2) refl

pub plain_fault : (s : Shape) (word : Text) (trailing : Bool) (h : Held) → IsPlain word trailing → word_fault s [] trailing idle word h ≡ []
plain_fault s word trailing h (inl e) = rw e refl
plain_fault s word true h (inr e) = refl
plain_fault s word false h (inr e) = rw (e.0, e.1, e.2) refl

and_false : (b : Bool) → (b && false) ≡ false
and_false true = refl
and_false false = refl

or_false : (b : Bool) → (b || false) ≡ b
or_false true = refl
or_false false = refl

pub unless_false : (b : Bool) (x y : Kinds) → x ≡ y → (if b && false then [] else x) ≡ y
unless_false true x y h = h
unless_false false x y h = h

module _ (s : Shape) (again : s.args_override_self ≡ false) (rows : List Row) (p : Pending) (of : IsPendingOf s.rules p) (position : ℕ) where
  pub dashes_turn : turn_fault s [] (at rows p position false) dashes ≡ []
  dashes_turn = refl

  pub dashes_walk : walked s.rules [] (at rows p position false) dashes ≡ at rows p position true
  unfolding walked
  dashes_walk = refl

  module _ (word n : Text) (apart : bytes_eq word dashes ≡ false) where
    pub flag_turn : long_of word ≡ Some (n, None) → arg_by_long s.rules n ≡ Some (built_flag n)
        → turn_fault s [] (at rows p position false) word ≡ or_else (pending_fault rows p) (repeat_fault false n (settled_rows s.rules (pending_values p) rows))
    flag_turn is found = rw (apart, is, found, again, settle_is s.rules rows p of) (twice_nil (pending_fault rows p) (repeat_fault false n (settled_rows s.rules (pending_values p) rows)))

    pub flag_walk : long_of word ≡ Some (n, None) → arg_by_long s.rules n ≡ Some (built_flag n) → has_pending rows p ≡ false → has_row n (extend rows p) ≡ false
        → walked s.rules [] (at rows p position false) word ≡ at (extend rows p ++ flag_row n ∷ []) None position false
    unfolding walked
    flag_walk is found has fresh = rw (apart, is, found, settled_is s.rules rows p of has, with_used n (codes "true") (extend rows p) fresh) refl

    pub joined_turn : (v : Text) → long_of word ≡ Some (n, Some v) → arg_by_long s.rules n ≡ Some (built_setting n)
        → turn_fault s [] (at rows p position false) word ≡ or_else (pending_fault rows p) (repeat_fault false n (settled_rows s.rules (pending_values p) rows))
    joined_turn v is found = rw (apart, is, found, again, settle_is s.rules rows p of) (twice_nil (pending_fault rows p) (repeat_fault false n (settled_rows s.rules (pending_values p) rows)))

    pub joined_walk : (v : Text) → long_of word ≡ Some (n, Some v) → arg_by_long s.rules n ≡ Some (built_setting n) → has_pending rows p ≡ false
        → has_row n (extend rows p) ≡ false → walked s.rules [] (at rows p position false) word ≡ at (extend rows p ++ text_row n v ∷ []) None position false
    unfolding walked
    joined_walk v is found has fresh = rw (apart, is, found, settled_is s.rules rows p of has, with_used n v (extend rows p) fresh) refl

    pub open_turn : long_of word ≡ Some (n, None) → arg_by_long s.rules n ≡ Some (built_setting n)
        → turn_fault s [] (at rows p position false) word ≡ pending_fault rows p
    open_turn is found = rw (apart, is, found, again, settle_is s.rules rows p of) (or_else-nil (pending_fault rows p))

    pub open_walk : long_of word ≡ Some (n, None) → arg_by_long s.rules n ≡ Some (built_setting n) → has_pending rows p ≡ false
        → walked s.rules [] (at rows p position false) word ≡ at_open (extend rows p) n position
    unfolding walked
    open_walk is found has = rw (apart, is, found, settled_is s.rules rows p of has) refl

    -- ---- options that are not the command's

    pub unknown_turn : (v : Option Text) → long_of word ≡ Some (n, v) → arg_by_long s.rules n ≡ None → turn_fault s [] (at rows p position false) word ≡ [] → ⊥
    unknown_turn v is found none = let bad : kind.UnknownArgument ∷ [] ≡ [] = rw (apart, is, found) at none in cc

    pub help_turn : (v : Option Text) → long_of word ≡ Some (n, v) → arg_by_long s.rules n ≡ Some built_help → turn_fault s [] (at rows p position false) word ≡ [] → ⊥
    help_turn None is found none =
        let both = first_none _ [] (rw (apart, is, found, again) at none) in
        let bad : kind.DisplayHelp ∷ [] ≡ [] = second_none _ (kind.DisplayHelp ∷ []) both in
        cc
    help_turn (Some v) is found none = let bad : kind.TooManyValues ∷ [] ≡ [] = rw (apart, is, found) at none in cc

    pub valued_turn : (v : Text) → long_of word ≡ Some (n, Some v) → arg_by_long s.rules n ≡ Some (built_flag n) → turn_fault s [] (at rows p position false) word ≡ [] → ⊥
    valued_turn v is found none = let bad : kind.TooManyValues ∷ [] ≡ [] = rw (apart, is, found) at none in cc

  -- ---- words that are no options

  module _ (word : Text) (trailing : Bool) (plain : IsPlain word trailing) where
    pub word_turn : (id : Text) → arg_by_index s.rules position ≡ Some (built_word id position)
        → turn_fault s [] (at rows p position trailing) word ≡ pending_fault rows p
    word_turn id found =
        let b = is_pending (built_word id position) (pending_values p) in
        rw (plain_fault s word trailing (held rows p) plain, plain_met s.rules position word trailing (held rows p) plain, found, again) (unless_false b _ _ (settle_is s.rules rows p of))

    pub word_walk : (id : Text) → arg_by_index s.rules position ≡ Some (built_word id position) → has_pending rows p ≡ false
        → walked s.rules [] (at rows p position trailing) word ≡ at (extend rows p) (Some (id, word)) (min (position + 1) usize_max) trailing
    unfolding walked
    word_walk id found has =
        let b = is_pending (built_word id position) (pending_values p) in
        rw (plain_met s.rules position word trailing (held rows p) plain, found, and_false b, or_false trailing, settled_is s.rules rows p of has) refl

    pub stray_turn : s.is_leaf ≡ true → arg_by_index s.rules position ≡ None → turn_fault s [] (at rows p position trailing) word ≡ [] → ⊥
    stray_turn leaf found none =
        let bad : kind.UnknownArgument ∷ [] ≡ [] = rw (plain_fault s word trailing (held rows p) plain, plain_met s.rules position word trailing (held rows p) plain, found, leaf) at none in
        cc

-- ---- the value of an option that waits for it

module _ (s : Shape) (rows : List Row) (id : Text) (found : arg_by_id s.rules id ≡ Some (built_setting id)) (position : ℕ) (word : Text)
    (plain : (bytes_eq word dashes ≡ false) × (long_of word ≡ None) × (short_of word ≡ None)) where
  pub value_turn : turn_fault s [] (at_open rows id position) word ≡ []
  value_turn = rw (plain.0, plain.1, plain.2) refl

  pub value_walk : walked s.rules [] (at_open rows id position) word ≡ at rows (Some (id, word)) position false
  unfolding walked
  value_walk = rw (plain.0, plain.1, plain.2, found, same_text id) refl

pub open_settle : (s : Shape) (rows : List Row) (id : Text) → arg_by_id s.rules id ≡ Some (built_setting id) → settle_fault s.rules s.args_override_self (held_open rows id) ≡ [] → ⊥
open_settle s rows id found none = let bad : kind.InvalidValue ∷ [] ≡ [] = rw found at none in cc
