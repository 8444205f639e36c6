-- The line of words that pass.
use Rattle.std.proofs.Common.{◌≡◌, ◌⊎◌, ◌∙◌, ℕ, zero, suc, ◌+◌, ◌≤◌, true, false, Option, Some, None, List, [], ◌∷◌, ◌++◌, length, min, refl, sym, ap, inl, inr, arith, append_assoc, append-nil}
use Rattle.std.specs.List.{flat_map, AllByRecursion}
use Rattle.std.specs.Str.{IsUtf8}
use Rattle.clap.specs.Lexer.{usize_max}
use Rattle.clap.specs.Walk.{Row, Text, arg_by_id, arg_by_long}
use Rattle.clap.specs.Simple.{Shape}
use Rattle.clap.specs.Faults.{repeat_fault, settle_fault}
use Rattle.wk_command_line.specs.CommandLine.{Form, IsIn, NoneTwice, Piece, flag, joined, parted, operand, dashes, free_words, is_free, option_word, piece_words, rest_operands, rest_words, ArePiecesOf}
use Rattle.wk_command_line.proofs.Names.{ids, twice_push}
use Rattle.wk_command_line.proofs.Rows.{flag_row, text_row}
use Rattle.wk_command_line.proofs.WordSteps.{at, at_open, built_help, built_setting, dashes_walk, extend, held_open, first_none, second_none, flag_turn, flag_walk, has_pending, help_turn, joined_turn, joined_walk, none_pending, open_settle, open_turn, open_walk, repeat_none, setting_text, settled_is, stray_turn, unknown_turn, value_walk, valued_turn, word_text, word_turn, word_walk, IsPendingOf, Pending}
use Rattle.wk_command_line.proofs.Looks.{IsOption, Look, free_plain, long_option, look, spelled}
use Rattle.wk_command_line.proofs.Refusals.{open_fails, short_turn}
use Rattle.wk_command_line.proofs.Walks.{Answers, HasOperands, end_pending, open_dashes, rest_none, run_fault, turn_none, word_as}
use Rattle.wk_command_line.proofs.LineWalks.{given_rows, once_as, push_once, regroup, word_rows}

-- a line of the words, after what was found before
pub record Finds (f : Form) (names : List Text) (before : List Row) (words : List Text) : Type 0 where
  pub pieces : List Piece
  pub rest : Option (List Text)
  pub are : words ≡ flat_map piece_words pieces ++ rest_words rest
  pub of : ArePiecesOf f pieces
  pub once : NoneTwice (ids (before ++ given_rows names pieces (rest_operands rest)))
  pub fits : length (free_words pieces ++ rest_operands rest) ≤ length names

-- a line with one piece more in front
one_more : (f : Form) (names later : List Text) (before : List Row) (r : Row) (piece : Piece) (words all : List Text) → all ≡ piece_words piece ++ words
    → ((pieces : List Piece) (rest : List Text) → given_rows names (piece ∷ pieces) rest ≡ r ∷ given_rows later pieces rest)
    → ((pieces : List Piece) (rest : List Text) → length (free_words pieces ++ rest) ≤ length later → length (free_words (piece ∷ pieces) ++ rest) ≤ length names)
    → ((pieces : List Piece) → ArePiecesOf f pieces → ArePiecesOf f (piece ∷ pieces))
    → Finds f later (before ++ r ∷ []) words → Finds f names before all
one_more f names later before r piece words all is rows fits of h = record {
  pieces = piece ∷ h.pieces;
  rest = h.rest;
  are = is ∙ (ap (λ t. piece_words piece ++ t) h.are ∙ sym (append_assoc (piece_words piece) (flat_map piece_words h.pieces) (rest_words h.rest)));
  of = of h.pieces h.of;
  once = once_as _ _ (regroup before r _ ∙ ap (λ t. before ++ t) (sym (rows h.pieces (rest_operands h.rest)))) h.once;
  fits = fits h.pieces (rest_operands h.rest) h.fits;
}

words_more : {m n : ℕ} → m ≤ n → suc m ≤ suc n
words_more h = omega arith

module _ (f : Form) (s : Shape) (answers : Answers f s) where
  -- after `--`
  words_found : (words names : List Text) (rows : List Row) (p : Pending) (position : ℕ) → IsPendingOf s.rules p → HasOperands s.rules position names → NoneTwice (ids rows)
      → run_fault s (at rows p position true) words ≡ []
      → (has_pending rows p ≡ false) × NoneTwice (ids (extend rows p ++ word_rows names words)) × (length words ≤ length names)
  words_found [] names rows p position of has once none =
      let free = end_pending s answers.again rows p position true of none in
      (free, once_as _ _ (sym (append-nil (extend rows p))) (push_once rows p once free), omega arith)
  words_found (w ∷ ws) [] rows p position of has once none =
      absurd (stray_turn s answers.again rows p of position w true (inl refl) answers.leaf has (turn_none s (at rows p position true) w ws none))
  words_found (w ∷ ws) (id ∷ names) rows p position of has once none =
      let turn = sym (word_turn s answers.again rows p of position w true (inl refl) id has.0) ∙ turn_none s (at rows p position true) w ws none in
      let free = none_pending rows p turn in
      let next = word_walk s answers.again rows p of position w true (inl refl) id has.0 free in
      let found = words_found ws names (extend rows p) (Some (id, w)) (min (position + 1) usize_max) (word_text s.rules id position has.1) has.2 (push_once rows p once free)
      (rest_none s (at rows p position true) _ w ws next none) in
      (free, once_as _ _ (regroup (extend rows p) (text_row id w) (word_rows names ws)) found.1, words_more found.2)

  abbrev Result : List Text → List Text → List Row → Pending → Type 0
  Result words names rows p = (has_pending rows p ≡ false) × Finds f names (extend rows p) words

  -- what is asked of shorter lists of words
  abbrev Shorter : ℕ → Type 0
  Shorter k = (words names : List Text) (rows : List Row) (p : Pending) (position : ℕ) → length words ≤ k → AllByRecursion IsUtf8 words → IsPendingOf s.rules p
      → HasOperands s.rules position names → NoneTwice (ids rows) → run_fault s (at rows p position false) words ≡ [] → Result words names rows p

  module _ (k : ℕ) (rec : Shorter k) (names : List Text) (rows : List Row) (p : Pending) (position : ℕ) (of : IsPendingOf s.rules p) (has : HasOperands s.rules position names)
      (once : NoneTwice (ids rows)) where
    at_dashes : (w : Text) (ws : List Text) → w ≡ dashes → run_fault s (at rows p position false) (w ∷ ws) ≡ [] → Result (w ∷ ws) names rows p
    at_dashes w ws is none =
        let next = dashes_walk s answers.again rows p of position in
        let found = words_found ws names rows p position of has once (rest_none s (at rows p position false) _ dashes ws next (word_as s (at rows p position false) w dashes ws is none)) in
        (found.0, record { pieces = []; rest = Some ws; are = ap (λ (x : Text). x ∷ ws) is; of = tt; once = found.1; fits = found.2 })

    at_flag : (w n : Text) (ws : List Text) → length ws ≤ k → AllByRecursion IsUtf8 ws → w ≡ option_word n → IsIn n f.flags → run_fault s (at rows p position false) (w ∷ ws) ≡ []
        → Result (w ∷ ws) names rows p
    at_flag w n ws short utf8 is in_flags none0 =
        let none = word_as s (at rows p position false) w (option_word n) ws is none0 in
        let word = answers.names n (inl in_flags) in
        let found = answers.flags n in_flags in
        let turn = sym (flag_turn s answers.again rows p of position (option_word n) n word.0 word.1 found) ∙ turn_none s (at rows p position false) (option_word n) ws none in
        let free = none_pending rows p (first_none _ _ turn) in
        let fresh = repeat_none n (extend rows p) (ap (repeat_fault false n) (sym (settled_is s.rules rows p of free)) ∙ second_none _ _ turn) in
        let next = flag_walk s answers.again rows p of position (option_word n) n word.0 word.1 found free fresh in
        let later = rec ws names (extend rows p ++ flag_row n ∷ []) None position short utf8 tt has
        (twice_push (extend rows p) (flag_row n) (push_once rows p once free) fresh) (rest_none s (at rows p position false) _ (option_word n) ws next none) in
        (free, one_more f names names (extend rows p) (flag_row n) (flag n) ws (w ∷ ws) (ap (λ (x : Text). x ∷ ws) is) (λ pieces rest. refl) (λ pieces rest h. h) (λ pieces h. (in_flags, h)) later.1)

    at_joined : (w n v : Text) (ws : List Text) → length ws ≤ k → AllByRecursion IsUtf8 ws → w ≡ option_word n ++ 61 ∷ v → IsIn n f.settings
        → run_fault s (at rows p position false) (w ∷ ws) ≡ [] → Result (w ∷ ws) names rows p
    at_joined w n v ws short utf8 is in_settings none0 =
        let spelling = option_word n ++ 61 ∷ v in
        let none = word_as s (at rows p position false) w spelling ws is none0 in
        let word = answers.values n v in_settings in
        let found = (answers.settings n in_settings).0 in
        let turn = sym (joined_turn s answers.again rows p of position spelling n word.0 v word.1 found) ∙ turn_none s (at rows p position false) spelling ws none in
        let free = none_pending rows p (first_none _ _ turn) in
        let fresh = repeat_none n (extend rows p) (ap (repeat_fault false n) (sym (settled_is s.rules rows p of free)) ∙ second_none _ _ turn) in
        let next = joined_walk s answers.again rows p of position spelling n word.0 v word.1 found free fresh in
        let later = rec ws names (extend rows p ++ text_row n v ∷ []) None position short utf8 tt has
        (twice_push (extend rows p) (text_row n v) (push_once rows p once free) fresh) (rest_none s (at rows p position false) _ spelling ws next none) in (
          free,
          one_more f names names (extend rows p) (text_row n v) (joined n v) ws (w ∷ ws) (ap (λ (x : Text). x ∷ ws) is) (λ pieces rest. refl) (λ pieces rest h. h)
              (λ pieces h. (in_settings, h)) later.1,
        )

    -- an option without its value so far
    at_parted : (w n : Text) (ws : List Text) → length ws ≤ k → AllByRecursion IsUtf8 ws → w ≡ option_word n → IsIn n f.settings
        → run_fault s (at rows p position false) (w ∷ ws) ≡ [] → Result (w ∷ ws) names rows p
    at_parted w n ws short utf8 is in_settings none0 =
        let none = word_as s (at rows p position false) w (option_word n) ws is none0 in
        let word = answers.names n (inr in_settings) in
        let found = answers.settings n in_settings in
        let turn = sym (open_turn s answers.again rows p of position (option_word n) n word.0 word.1 found.0) ∙ turn_none s (at rows p position false) (option_word n) ws none in
        let free = none_pending rows p turn in
        let next = open_walk s answers.again rows p of position (option_word n) n word.0 word.1 found.0 free in
        value ws short utf8 found.1 free (rest_none s (at rows p position false) _ (option_word n) ws next none)
      where
        bad : arg_by_id s.rules n ≡ Some (built_setting n) → settle_fault s.rules s.args_override_self (held_open (extend rows p) n) ≡ [] → ⊥
        bad found = open_settle s (extend rows p) n found

        valued : (v : Text) (vs : List Text) → length (v ∷ vs) ≤ k → AllByRecursion IsUtf8 (v ∷ vs) → arg_by_id s.rules n ≡ Some (built_setting n) → has_pending rows p ≡ false
            → run_fault s (at_open (extend rows p) n position) (v ∷ vs) ≡ [] → Look v → Result (w ∷ v ∷ vs) names rows p
        valued v vs short utf8 found free none (inl plain) =
            let next = value_walk s (extend rows p) n found position v (free_plain v plain) in
            let later = rec vs names (extend rows p) (Some (n, v)) position (omega arith) utf8.1 (setting_text s.rules n found) has (push_once rows p once free)
            (rest_none s (at_open (extend rows p) n position) _ v vs next none) in (
              free,
              one_more f names names (extend rows p) (text_row n v) (parted n v) vs (w ∷ v ∷ vs) (ap (λ (x : Text). x ∷ v ∷ vs) is) (λ pieces rest. refl) (λ pieces rest h. h)
                  (λ pieces h. ((in_settings, plain), h)) later.1,
            )
        valued v vs short utf8 found free none (inr (inl double)) = absurd (open_dashes s answers.leaf (extend rows p) n position names has vs (bad found) (word_as s (at_open (extend rows p) n position) v dashes vs double none))
        valued v vs short utf8 found free none (inr (inr (inl long))) =
            absurd (open_fails s (extend rows p) n position v (bad found) answers.shorts utf8.0 (inl (long_option v long).0) (turn_none s (at_open (extend rows p) n position) v vs none))
        valued v vs short utf8 found free none (inr (inr (inr bundle))) =
            absurd (open_fails s (extend rows p) n position v (bad found) answers.shorts utf8.0 (inr bundle) (turn_none s (at_open (extend rows p) n position) v vs none))

        value : (ws : List Text) → length ws ≤ k → AllByRecursion IsUtf8 ws → arg_by_id s.rules n ≡ Some (built_setting n) → has_pending rows p ≡ false
            → run_fault s (at_open (extend rows p) n position) ws ≡ [] → Result (w ∷ ws) names rows p
        value [] short utf8 found free none = absurd (bad found (first_none _ _ none))
        value (v ∷ vs) short utf8 found free none = valued v vs short utf8 found free none (look v)

    at_operand : (names : List Text) → HasOperands s.rules position names → (w : Text) (ws : List Text) → length ws ≤ k → AllByRecursion IsUtf8 ws → is_free w ≡ true
        → run_fault s (at rows p position false) (w ∷ ws) ≡ [] → Result (w ∷ ws) names rows p
    at_operand [] has w ws short utf8 plain none =
        absurd (stray_turn s answers.again rows p of position w false (inr (free_plain w plain)) answers.leaf has (turn_none s (at rows p position false) w ws none))
    at_operand (id ∷ names) has w ws short utf8 plain none =
        let as_plain = free_plain w plain in
        let turn = sym (word_turn s answers.again rows p of position w false (inr as_plain) id has.0) ∙ turn_none s (at rows p position false) w ws none in
        let free = none_pending rows p turn in
        let next = word_walk s answers.again rows p of position w false (inr as_plain) id has.0 free in
        let later = rec ws names (extend rows p) (Some (id, w)) (min (position + 1) usize_max) short utf8 (word_text s.rules id position has.1) has.2 (push_once rows p once free)
        (rest_none s (at rows p position false) _ w ws next none) in
        (free, one_more f (id ∷ names) names (extend rows p) (text_row id w) (operand w) ws (w ∷ ws) refl (λ pieces rest. refl) (λ pieces rest h. words_more h) (λ pieces h. (plain, h)) later.1)

    at_long : (w : Text) (ws : List Text) → length ws ≤ k → AllByRecursion IsUtf8 ws → (o : IsOption w) → w ≡ spelled o.name o.value
        → run_fault s (at rows p position false) (w ∷ ws) ≡ [] → Result (w ∷ ws) names rows p
    at_long w ws short utf8 o is none = go o.value refl (answers.others o.name)
      where
        go : (v : Option Text) → o.value ≡ v
            → (IsIn o.name f.flags ⊎ (IsIn o.name f.settings ⊎ ((arg_by_long s.rules o.name ≡ None) ⊎ (arg_by_long s.rules o.name ≡ Some built_help))))
            → Result (w ∷ ws) names rows p
        go None e (inl flags) = at_flag w o.name ws short utf8 (is ∙ ap (spelled o.name) e) flags none
        go (Some v) e (inl flags) =
            absurd (valued_turn s answers.again rows p of position w o.name o.apart v (o.long ∙ ap (λ (x : Option Text). Some (o.name, x)) e) (answers.flags o.name flags)
            (turn_none s (at rows p position false) w ws none))
        go None e (inr (inl settings)) = at_parted w o.name ws short utf8 (is ∙ ap (spelled o.name) e) settings none
        go (Some v) e (inr (inl settings)) = at_joined w o.name v ws short utf8 (is ∙ ap (spelled o.name) e) settings none
        go v e (inr (inr (inl absent))) = absurd (unknown_turn s answers.again rows p of position w o.name o.apart o.value o.long absent (turn_none s (at rows p position false) w ws none))
        go v e (inr (inr (inr help))) = absurd (help_turn s answers.again rows p of position w o.name o.apart o.value o.long help (turn_none s (at rows p position false) w ws none))

    at_word : (w : Text) (ws : List Text) → length ws ≤ k → AllByRecursion IsUtf8 (w ∷ ws) → run_fault s (at rows p position false) (w ∷ ws) ≡ [] → Look w
        → Result (w ∷ ws) names rows p
    at_word w ws short utf8 none (inl plain) = at_operand names has w ws short utf8.1 plain none
    at_word w ws short utf8 none (inr (inl double)) = at_dashes w ws double none
    at_word w ws short utf8 none (inr (inr (inl long))) = at_long w ws short utf8.1 (long_option w long).0 (long_option w long).1 none
    at_word w ws short utf8 none (inr (inr (inr bundle))) =
        absurd (short_turn s rows p position w answers.shorts utf8.0 bundle (turn_none s (at rows p position false) w ws none))

  pub finds : (k : ℕ) → Shorter k
  finds k [] names rows p position short utf8 of has once none =
      let free = end_pending s answers.again rows p position false of none in
      (free, record { pieces = []; rest = None; are = refl; of = tt; once = once_as _ _ (sym (append-nil (extend rows p))) (push_once rows p once free); fits = omega arith })
  finds zero (w ∷ ws) names rows p position short utf8 of has once none = absurd (omega arith)
  finds (suc k) (w ∷ ws) names rows p position short utf8 of has once none =
      at_word k (finds k) names rows p position of has once w ws (omega arith) utf8 none (look w)
