-- A walk over the words of a line, and the line of words that pass.
use Rattle.std.proofs.Common.{◌≡◌, ◌∙◌, ℕ, ◌+◌, ◌≤◌, true, false, Option, Some, None, List, [], ◌∷◌, ◌++◌, length, min, refl, sym, subst, inl, inr, arith, append_assoc, append-nil}
use Rattle.std.specs.List.{flat_map}
use Rattle.clap.specs.Lexer.{usize_max}
use Rattle.clap.specs.Kinds.{or_else}
use Rattle.clap.specs.Walk.{Row, Rule, Text, has_row, settled_rows}
use Rattle.clap.specs.Simple.{Shape}
use Rattle.clap.specs.Faults.{repeat_fault}
use Rattle.wk_command_line.specs.CommandLine.{Form, NoneTwice, Piece, flag, joined, parted, operand, dashes, free_words, option_word, piece_words, rest_operands, rest_words, ArePiecesOf}
use Rattle.wk_command_line.proofs.Names.{ids, twice_not_has, twice_push}
use Rattle.wk_command_line.proofs.Rows.{flag_row, text_row}
use Rattle.wk_command_line.proofs.WordSteps.{at, at_open, dashes_turn, dashes_walk, extend, flag_turn, flag_walk, has_pending, joined_turn, joined_walk, open_turn, open_walk, pending_fault, pending_none, pending_values, setting_text, settled_is, value_turn, value_walk, word_text, word_turn, word_walk, IsPendingOf, Pending}
use Rattle.wk_command_line.proofs.Looks.{free_plain}
use Rattle.wk_command_line.proofs.Walks.{Answers, HasOperands, Reaches, reach, reach_end}

-- ---- the rows of a line

abbrev pub word_rows : List Text → List Text → List Row
word_rows names [] = []
word_rows [] (word ∷ words) = []
word_rows (id ∷ names) (word ∷ words) = text_row id word ∷ word_rows names words

abbrev pub given_rows : List Text → List Piece → List Text → List Row
given_rows names [] words = word_rows names words
given_rows names (flag name ∷ pieces) words = flag_row name ∷ given_rows names pieces words
given_rows names (joined name value ∷ pieces) words = text_row name value ∷ given_rows names pieces words
given_rows names (parted name value ∷ pieces) words = text_row name value ∷ given_rows names pieces words
given_rows [] (operand word ∷ pieces) words = given_rows [] pieces words
given_rows (id ∷ names) (operand word ∷ pieces) words = text_row id word ∷ given_rows names pieces words

-- ---- one row more

pub regroup : (a : List Row) (r : Row) (more : List Row) → (a ++ r ∷ []) ++ more ≡ a ++ r ∷ more
regroup a r more = append_assoc a (r ∷ []) more

pub once_as : (a b : List Row) → a ≡ b → NoneTwice (ids a) → NoneTwice (ids b)
once_as a b e h = subst (λ rows. NoneTwice (ids rows)) e h

-- nothing is pending twice
pending_once : (rows : List Row) (p : Pending) (more : List Row) → NoneTwice (ids (extend rows p ++ more)) → has_pending rows p ≡ false
pending_once rows None more h = refl
pending_once rows (Some p) more h = twice_not_has rows (text_row p.0 p.1) more (once_as _ _ (regroup rows (text_row p.0 p.1) more) h)

pub push_once : (rows : List Row) (p : Pending) → NoneTwice (ids rows) → has_pending rows p ≡ false → NoneTwice (ids (extend rows p))
push_once rows None h has = h
push_once rows (Some p) h has = twice_push rows (text_row p.0 p.1) h has

-- ---- a line passes

passes : (c : List Rule) (rows : List Row) (p : Pending) (n : Text) → IsPendingOf c p → has_pending rows p ≡ false → has_row n (extend rows p) ≡ false
    → or_else (pending_fault rows p) (repeat_fault false n (settled_rows c (pending_values p) rows)) ≡ []
passes c rows p n of has fresh = rw (pending_none rows p has, settled_is c rows p of has, fresh) refl

module _ (f : Form) (s : Shape) (answers : Answers f s) where
  words_reach : (words : List Text) (names : List Text) (rows : List Row) (p : Pending) (position : ℕ) → IsPendingOf s.rules p → HasOperands s.rules position names
      → length words ≤ length names → NoneTwice (ids (extend rows p ++ word_rows names words))
      → Reaches s (at rows p position true) words (extend rows p ++ word_rows names words)
  words_reach [] names rows p position of has fits once =
      subst (Reaches s (at rows p position true) []) (sym (append-nil (extend rows p))) (reach_end s answers.again rows p position true of (pending_once rows p [] once))
  words_reach (w ∷ ws) [] rows p position of has fits once = absurd (omega arith)
  words_reach (w ∷ ws) (id ∷ names) rows p position of has fits once =
      let r = text_row id w in
      let more = word_rows names ws in
      let free = pending_once rows p (r ∷ more) once in
      let next = words_reach ws names (extend rows p) (Some (id, w)) (min (position + 1) usize_max) (word_text s.rules id position has.1) has.2 (omega arith)
      (once_as _ _ (sym (regroup (extend rows p) r more)) once) in
      reach s (at rows p position true) (at (extend rows p) (Some (id, w)) (min (position + 1) usize_max) true) w ws _
      (word_turn s answers.again rows p of position w true (inl refl) id has.0 ∙ pending_none rows p free)
      (word_walk s answers.again rows p of position w true (inl refl) id has.0 free)
      (subst (Reaches s _ ws) (regroup (extend rows p) r more) next)

  pub pieces_reach : (pieces : List Piece) (rest : Option (List Text)) (names : List Text) (rows : List Row) (p : Pending) (position : ℕ) → IsPendingOf s.rules p
      → HasOperands s.rules position names → ArePiecesOf f pieces
      → length (free_words pieces ++ rest_operands rest) ≤ length names → NoneTwice (ids (extend rows p ++ given_rows names pieces (rest_operands rest)))
      → Reaches s (at rows p position false) (flat_map piece_words pieces ++ rest_words rest) (extend rows p ++ given_rows names pieces (rest_operands rest))
  pieces_reach [] None names rows p position of has are fits once =
      subst (Reaches s (at rows p position false) []) (sym (append-nil (extend rows p))) (reach_end s answers.again rows p position false of (pending_once rows p [] once))
  pieces_reach [] (Some words) names rows p position of has are fits once =
      reach s (at rows p position false) (at rows p position true) dashes words _ (dashes_turn s answers.again rows p of position) (dashes_walk s answers.again rows p of position)
      (words_reach words names rows p position of has fits once)
  pieces_reach (flag n ∷ pieces) rest names rows p position of has are fits once =
      let r = flag_row n in
      let more = given_rows names pieces (rest_operands rest) in
      let free = pending_once rows p (r ∷ more) once in
      let fresh = twice_not_has (extend rows p) r more once in
      let word = answers.names n (inl are.0) in
      let found = answers.flags n are.0 in
      let next = pieces_reach pieces rest names (extend rows p ++ r ∷ []) None position tt has are.1 fits (once_as _ _ (sym (regroup (extend rows p) r more)) once) in
      reach s (at rows p position false) (at (extend rows p ++ r ∷ []) None position false) (option_word n) _ _
      (flag_turn s answers.again rows p of position (option_word n) n word.0 word.1 found ∙ passes s.rules rows p n of free fresh)
      (flag_walk s answers.again rows p of position (option_word n) n word.0 word.1 found free fresh)
      (subst (Reaches s _ _) (regroup (extend rows p) r more) next)
  pieces_reach (joined n v ∷ pieces) rest names rows p position of has are fits once =
      let r = text_row n v in
      let more = given_rows names pieces (rest_operands rest) in
      let free = pending_once rows p (r ∷ more) once in
      let fresh = twice_not_has (extend rows p) r more once in
      let w = option_word n ++ 61 ∷ v in
      let word = answers.values n v are.0 in
      let found = (answers.settings n are.0).0 in
      let next = pieces_reach pieces rest names (extend rows p ++ r ∷ []) None position tt has are.1 fits (once_as _ _ (sym (regroup (extend rows p) r more)) once) in
      reach s (at rows p position false) (at (extend rows p ++ r ∷ []) None position false) w _ _
      (joined_turn s answers.again rows p of position w n word.0 v word.1 found ∙ passes s.rules rows p n of free fresh)
      (joined_walk s answers.again rows p of position w n word.0 v word.1 found free fresh)
      (subst (Reaches s _ _) (regroup (extend rows p) r more) next)
  pieces_reach (parted n v ∷ pieces) rest names rows p position of has are fits once =
      let r = text_row n v in
      let more = given_rows names pieces (rest_operands rest) in
      let free = pending_once rows p (r ∷ more) once in
      let word = answers.names n (inr are.0.0) in
      let found = answers.settings n are.0.0 in
      let plain = free_plain v are.0.1 in
      let next = pieces_reach pieces rest names (extend rows p) (Some (n, v)) position (setting_text s.rules n found.1) has are.1 fits
      (once_as _ _ (sym (regroup (extend rows p) r more)) once) in
      reach s (at rows p position false) (at_open (extend rows p) n position) (option_word n) _ _
      (open_turn s answers.again rows p of position (option_word n) n word.0 word.1 found.0 ∙ pending_none rows p free)
      (open_walk s answers.again rows p of position (option_word n) n word.0 word.1 found.0 free)
      (reach s (at_open (extend rows p) n position) (at (extend rows p) (Some (n, v)) position false) v _ _
      (value_turn s (extend rows p) n found.1 position v plain)
      (value_walk s (extend rows p) n found.1 position v plain)
      (subst (Reaches s _ _) (regroup (extend rows p) r more) next))
  pieces_reach (operand w ∷ pieces) rest [] rows p position of has are fits once = absurd (omega arith)
  pieces_reach (operand w ∷ pieces) rest (id ∷ names) rows p position of has are fits once =
      let r = text_row id w in
      let more = given_rows names pieces (rest_operands rest) in
      let free = pending_once rows p (r ∷ more) once in
      let plain = free_plain w are.0 in
      let next = pieces_reach pieces rest names (extend rows p) (Some (id, w)) (min (position + 1) usize_max) (word_text s.rules id position has.1) has.2 are.1 (omega arith)
      (once_as _ _ (sym (regroup (extend rows p) r more)) once) in
      reach s (at rows p position false) (at (extend rows p) (Some (id, w)) (min (position + 1) usize_max) false) w _ _
      (word_turn s answers.again rows p of position w false (inr plain) id has.0 ∙ pending_none rows p free)
      (word_walk s answers.again rows p of position w false (inr plain) id has.0 free)
      (subst (Reaches s _ _) (regroup (extend rows p) r more) next)
