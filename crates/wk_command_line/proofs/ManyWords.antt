-- One word of a walk over the words of a command whose operand may be given more than once.
use Rattle.std.proofs.Common.{◌≡◌, ◌∙◌, ◌&&◌, ◌||◌, Bool, true, false, Option, Some, None, List, [], ◌∷◌, ◌++◌, refl, inl, inr, codes}
use Rattle.std.specs.Str.{bytes_eq, IsUtf8}
use Rattle.clap.specs.Lexer.{long_of}
use Rattle.clap.specs.Walk.{Held, Row, Rule, Text, Waiting, Walk, idle, positional, value, arg_by_id, arg_by_index, arg_by_long, has_row, is_pending, settled_rows, with_values, word_met}
use Rattle.clap.specs.Walk.{walked}
use Rattle.clap.specs.Simple.{Shape, filled, with_index}
use Rattle.clap.specs.Faults.{repeat_fault, settle_fault, turn_fault, word_fault}
use Rattle.clap.specs.declared.builder.value_parser.Reading.TheVariants as reading
use Rattle.clap.specs.declared.parser.matches.ValueSource.TheVariants.{CommandLine}
use Rattle.clap.specs.declared.error.kind.ErrorKind.TheVariants as kind
use Rattle.wk_command_line.specs.CommandLine.{dashes}
use Rattle.wk_command_line.specs.Syntax.{words_rule}
use Rattle.wk_command_line.proofs.Rows.{flag_row, with_used}
use Rattle.wk_command_line.proofs.WordSteps.{built_flag, built_help, first_none, or_else-nil, second_none, unless_false, IsPlain}
use Rattle.wk_command_line.proofs.Looks.{IsShort}
use Rattle.wk_command_line.proofs.Refusals.{short_apart, short_fails, HasNoShort}

abbrev pub built_words : Text → Rule
built_words name = with_index 1 (filled (words_rule name))

-- ---- states

-- the word of the operand that is not settled yet
abbrev pub pending_word : Text → Option Text → Option (Text × List Text)
pending_word id None = None
pending_word id (Some word) = Some (id, word ∷ [])

abbrev pub held_word : Text → List Row → Option Text → Held
held_word id rows p = record { rows = rows; pending = pending_word id p; skip = 0 }

-- what waits between two words, by whether one was taken as the operand
abbrev pub waits_after : Bool → Waiting
waits_after true = positional
waits_after false = idle

abbrev pub at_many : Text → List Row → Option Text → Bool → Bool → Walk
at_many id rows p after trailing =
    record { held = held_word id rows p; waiting = waits_after after; position = 1; is_trailing = trailing; stopped = None }

-- the rows with the word
abbrev pub extend_many : Text → List Row → Option Text → List Row
extend_many id rows None = rows
extend_many id rows (Some word) = with_values id reading.AsWritten CommandLine (word ∷ []) rows

module _ (s : Shape) (again : s.args_override_self ≡ false) (id : Text) (found_id : arg_by_id s.rules id ≡ Some (built_words id)) (rows : List Row) where
  pub settles : (p : Option Text) → settle_fault s.rules false (held_word id rows p) ≡ []
  settles None = refl
  settles (Some word) = rw found_id refl

  pub settled_many : (p : Option Text) → settled_rows s.rules (pending_word id p) rows ≡ extend_many id rows p
  settled_many None = refl
  settled_many (Some word) = rw found_id refl

  module _ (p : Option Text) where
    -- ---- `--`

    pub many_dashes_turn : (after : Bool) → turn_fault s [] (at_many id rows p after false) dashes ≡ []
    many_dashes_turn true = refl
    many_dashes_turn false = refl

    pub many_dashes_walk : (after : Bool) → walked s.rules [] (at_many id rows p after false) dashes ≡ at_many id rows p after true
    unfolding walked
    many_dashes_walk true = refl
    many_dashes_walk false = refl

    -- ---- options

    module _ (word n : Text) (apart : bytes_eq word dashes ≡ false) where
      pub many_flag_turn : (after : Bool) → long_of word ≡ Some (n, None) → arg_by_long s.rules n ≡ Some (built_flag n)
          → turn_fault s [] (at_many id rows p after false) word ≡ repeat_fault false n (extend_many id rows p)
      many_flag_turn true is found = rw (apart, is, found, again, settles p, settled_many p) (or_else-nil _ ∙ or_else-nil _)
      many_flag_turn false is found = rw (apart, is, found, again, settles p, settled_many p) (or_else-nil _ ∙ or_else-nil _)

      pub many_flag_walk : (after : Bool) → long_of word ≡ Some (n, None) → arg_by_long s.rules n ≡ Some (built_flag n) → has_row n (extend_many id rows p) ≡ false
          → walked s.rules [] (at_many id rows p after false) word ≡ at_many id (extend_many id rows p ++ flag_row n ∷ []) None false false
      unfolding walked
      many_flag_walk true is found fresh = rw (apart, is, found, settled_many p, with_used n (codes "true") (extend_many id rows p) fresh) refl
      many_flag_walk false is found fresh = rw (apart, is, found, settled_many p, with_used n (codes "true") (extend_many id rows p) fresh) refl

      pub many_unknown_turn : (after : Bool) (v : Option Text) → long_of word ≡ Some (n, v) → arg_by_long s.rules n ≡ None
          → turn_fault s [] (at_many id rows p after false) word ≡ [] → ⊥
      many_unknown_turn true v is found none = let bad : kind.UnknownArgument ∷ [] ≡ [] = rw (apart, is, found) at none in cc
      many_unknown_turn false v is found none = let bad : kind.UnknownArgument ∷ [] ≡ [] = rw (apart, is, found) at none in cc

      pub many_help_turn : (after : Bool) (v : Option Text) → long_of word ≡ Some (n, v) → arg_by_long s.rules n ≡ Some built_help
          → turn_fault s [] (at_many id rows p after false) word ≡ [] → ⊥
      many_help_turn true None is found none =
          let both = first_none _ [] (rw (apart, is, found, again) at none) in
          let bad : kind.DisplayHelp ∷ [] ≡ [] = second_none _ (kind.DisplayHelp ∷ []) both in
          cc
      many_help_turn false None is found none =
          let both = first_none _ [] (rw (apart, is, found, again) at none) in
          let bad : kind.DisplayHelp ∷ [] ≡ [] = second_none _ (kind.DisplayHelp ∷ []) both in
          cc
      many_help_turn true (Some v) is found none = let bad : kind.TooManyValues ∷ [] ≡ [] = rw (apart, is, found) at none in cc
      many_help_turn false (Some v) is found none = let bad : kind.TooManyValues ∷ [] ≡ [] = rw (apart, is, found) at none in cc

      pub many_valued_turn : (after : Bool) (v : Text) → long_of word ≡ Some (n, Some v) → arg_by_long s.rules n ≡ Some (built_flag n)
          → turn_fault s [] (at_many id rows p after false) word ≡ [] → ⊥
      many_valued_turn true v is found none = let bad : kind.TooManyValues ∷ [] ≡ [] = rw (apart, is, found) at none in cc
      many_valued_turn false v is found none = let bad : kind.TooManyValues ∷ [] ≡ [] = rw (apart, is, found) at none in cc

    pub many_short_turn : (word : Text) (after : Bool) → HasNoShort s.rules → IsUtf8 word → IsShort word → turn_fault s [] (at_many id rows p after false) word ≡ [] → ⊥
    many_short_turn word true none_short u short none =
        let fails : word_fault s [] false positional word (held_word id rows p) ≡ [] = first_none _ _ none in
        short_fails s.rules s.args_override_self word (held_word id rows p) refl none_short u short (rw (short_apart word short) at fails)
    many_short_turn word false none_short u short none =
        let fails : word_fault s [] false idle word (held_word id rows p) ≡ [] = first_none _ _ none in
        short_fails s.rules s.args_override_self word (held_word id rows p) refl none_short u short (rw (short_apart word short) at fails)

    -- ---- the operand

    module _ (found_at : arg_by_index s.rules 1 ≡ Some (built_words id)) (word : Text) where
      many_met : (after trailing : Bool) → IsPlain word trailing → word_met s.rules [] trailing (waits_after after) 1 word (held_word id rows p) ≡ (held_word id rows p, value)
      many_met after true plain = refl
      many_met true false (inl e) = cc
      many_met false false (inl e) = cc
      many_met true false (inr e) = rw (e.0, e.1, e.2) refl
      many_met false false (inr e) = rw (e.0, e.1, e.2) refl

      no_fault : (after trailing : Bool) → IsPlain word trailing → word_fault s [] trailing (waits_after after) word (held_word id rows p) ≡ []
      no_fault after true plain = refl
      no_fault true false (inl e) = cc
      no_fault false false (inl e) = cc
      no_fault true false (inr e) = rw (e.0, e.1, e.2) refl
      no_fault false false (inr e) = rw (e.0, e.1, e.2) refl

      pub many_word_turn : (after trailing : Bool) → IsPlain word trailing → turn_fault s [] (at_many id rows p after trailing) word ≡ []
      many_word_turn after trailing plain =
          let b = is_pending (built_words id) (pending_word id p) in
          rw (no_fault after trailing plain, many_met after trailing plain, found_at, again) (unless_false b _ _ (settles p))

      and_none : (b : Bool) → (b && false) ≡ false
      and_none true = refl
      and_none false = refl

      or_none : (b : Bool) → (b || false) ≡ b
      or_none true = refl
      or_none false = refl

      pub many_word_walk : (after trailing : Bool) → IsPlain word trailing
          → walked s.rules [] (at_many id rows p after trailing) word ≡ at_many id (extend_many id rows p) (Some word) true trailing
      unfolding walked
      many_word_walk after trailing plain =
          let b = is_pending (built_words id) (pending_word id p) in
          rw (many_met after trailing plain, found_at, and_none b, or_none trailing, settled_many p) refl
