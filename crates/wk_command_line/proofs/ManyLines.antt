-- The lines of a command whose operand may be given more than once: which pass, and what is found in them.
use Rattle.std.proofs.Common.{◌≡◌, ◌⊎◌, ◌∙◌, ◌||◌, ◌<◌, ◌≤◌, ℕ, zero, suc, Bool, true, false, not, Option, Some, None, List, [], ◌∷◌, ◌++◌, length, refl, sym, subst, ap, ap₂, inl, inr, arith, append_assoc, append-nil, codes}
use Rattle.std.specs.Prelude.{if◌then◌else◌, option_map, option_and_then, slice_get}
use Rattle.std.specs.Option.{option_map_or, option_or}
use Rattle.std.specs.List.{flat_map, fold, list_all, AllByRecursion}
use Rattle.std.specs.Str.{bytes_eq, IsUtf8}
use Rattle.std.proofs.lemmas.Slice.Eq.{bytes_eq-Decides}
use Rattle.clap.specs.Lexer.{long_of}
use Rattle.clap.specs.Facts.{explicit_source}
use Rattle.clap.specs.Walk.{Row, Text, all_of, first_of, nothing_held, one_of, row_text, rows_after, with_default, arg_by_id, arg_by_index, arg_by_long}
use Rattle.clap.specs.Simple.{Shape}
use Rattle.clap.specs.Takes.{is_given as is_given_in}
use Rattle.clap.specs.Faults.{check_fault, level_fault, turn_fault}
use Rattle.clap.specs.declared.error.kind.ErrorKind.TheVariants as kind
use Rattle.clap.specs.declared.parser.matches.ValueSource.TheVariants.{DefaultValue}
use Rattle.wk_command_line.specs.CommandLine.{Form, IsIn, Line, NoneTwice, Piece, flag, joined, parted, operand, dashes, free_words, is_free, is_given, line_words, operands_of, option_word, options_of, piece_words, rest_operands, rest_words, ArePiecesOf}
use Rattle.wk_command_line.specs.Syntax.{flag_text, is_on}
use Rattle.wk_command_line.proofs.Names.{same_text}
use Rattle.wk_command_line.proofs.Rows.{flag_row, row_of}
use Rattle.wk_command_line.proofs.WordSteps.{built_flag, built_help}
use Rattle.wk_command_line.proofs.Looks.{IsOption, Look, free_plain, long_option, look, spelled}
use Rattle.wk_command_line.proofs.Refusals.{HasNoShort}
use Rattle.wk_command_line.proofs.Walks.{Reaches, end_of, level_is, reach, rest_none, run_fault, turn_none, word_as}
use Rattle.wk_command_line.proofs.LineEnds.{default_in, final_find, find_in, is_fine, no_default_fault, or_none}
use Rattle.wk_command_line.proofs.ManyWords.{at_many, built_words, extend_many, many_dashes_turn, many_dashes_walk, many_flag_turn, many_flag_walk, many_help_turn, many_short_turn, many_unknown_turn, many_valued_turn, many_word_turn, many_word_walk, settled_many, settles}
use Rattle.wk_command_line.proofs.ManyRows.{Holds, flag_again, flag_had, flag_held, flag_if, is_among, none_held, with_word, word_held, words_row}

-- ---- what a command's arguments answer

pub record AnswersMany (f : Form) (id : Text) (s : Shape) : Type 0 where
  pub again : s.args_override_self ≡ false
  pub flags : (n : Text) → IsIn n f.flags → arg_by_long s.rules n ≡ Some (built_flag n)
  pub settings : (n : Text) → IsIn n f.settings → ⊥
  pub others : (n : Text) → IsIn n f.flags ⊎ ((arg_by_long s.rules n ≡ None) ⊎ (arg_by_long s.rules n ≡ Some built_help))
  pub shorts : HasNoShort s.rules
  pub named : arg_by_id s.rules id ≡ Some (built_words id)
  pub placed : arg_by_index s.rules 1 ≡ Some (built_words id)
  pub names : (n : Text) → IsIn n f.flags → (bytes_eq (option_word n) dashes ≡ false) × (long_of (option_word n) ≡ Some (n, None))
  pub apart : (n : Text) → IsIn n f.flags → bytes_eq id n ≡ false
  -- at the end
  pub fine : list_all is_fine s.rules ≡ true
  pub wants : (rows : List Row) → check_fault s rows false ≡ (if not (is_given_in id rows) then kind.MissingRequiredArgument ∷ [] else [])
  pub flag_defaults : (n : Text) → IsIn n f.flags → default_in n s.rules ≡ Some (row_of DefaultValue n (codes "false"))
  pub no_default : default_in id s.rules ≡ None

-- ---- options, none of them twice

-- none of the options is among these, and none is there twice
abbrev Once : List Text → List Piece → Type 0
Once before [] = Unit {0}
Once before (flag n ∷ pieces) = (is_among n before ≡ false) × Once (n ∷ before) pieces
Once before (joined n v ∷ pieces) = Once before pieces
Once before (parted n v ∷ pieces) = Once before pieces
Once before (operand w ∷ pieces) = Once before pieces

or_both : (a b : Bool) → (a || b) ≡ false → (a ≡ false) × (b ≡ false)
or_both true b h = cc
or_both false b h = (refl, h)

module _ (f : Form) (no_settings : (n : Text) → IsIn n f.settings → ⊥) where
  once_none : (before : List Text) (pieces : List Piece) → ArePiecesOf f pieces → Once before pieces
      → NoneTwice (options_of pieces) × ((m : Text) → IsIn m (options_of pieces) → is_among m before ≡ false)
  once_none before [] are h = (tt, λ m i. absurd i)
  once_none before (flag n ∷ pieces) are h =
      let rest = once_none (n ∷ before) pieces are.1 h.1 in (
        ((λ i. let bad : true ≡ false = sym (same_text n) ∙ (or_both (bytes_eq n n) (is_among n before) (rest.1 n i)).0 in cc), rest.0),
        λ m i. elim i [ inl e ↦ subst (λ x. is_among x before ≡ false) (sym e) h.0 | inr j ↦ (or_both (bytes_eq n m) (is_among m before) (rest.1 m j)).1 ],
      )
  once_none before (joined n v ∷ pieces) are h = absurd (no_settings n are.0)
  once_none before (parted n v ∷ pieces) are h = absurd (no_settings n are.0.0)
  once_none before (operand w ∷ pieces) are h = once_none before pieces are.1 h

  none_once : (before : List Text) (pieces : List Piece) → ArePiecesOf f pieces → NoneTwice (options_of pieces)
      → ((m : Text) → IsIn m (options_of pieces) → is_among m before ≡ false) → Once before pieces
  none_once before [] are once out = tt
  none_once before (flag n ∷ pieces) are once out = (out n (inl refl), none_once (n ∷ before) pieces are.1 once.1 (λ m i. go m i (bytes_eq n m) refl))
    where
      go : (m : Text) → IsIn m (options_of pieces) → (b : Bool) → bytes_eq n m ≡ b → (bytes_eq n m || is_among m before) ≡ false
      go m i true e = absurd (once.0 (subst (λ x. IsIn x (options_of pieces)) (sym ((bytes_eq-Decides n m).0 e)) i))
      go m i false e = rw e (out m (inr i))
  none_once before (joined n v ∷ pieces) are once out = absurd (no_settings n are.0)
  none_once before (parted n v ∷ pieces) are once out = absurd (no_settings n are.0.0)
  none_once before (operand w ∷ pieces) are once out = none_once before pieces are.1 once out

-- the options, the last one first
abbrev gathered : List Text → List Piece → List Text
gathered before [] = before
gathered before (flag n ∷ pieces) = gathered (n ∷ before) pieces
gathered before (joined n v ∷ pieces) = gathered before pieces
gathered before (parted n v ∷ pieces) = gathered before pieces
gathered before (operand w ∷ pieces) = gathered before pieces

or_swap : (a b c : Bool) → ((a || b) || c) ≡ (b || (a || c))
or_swap true true c = refl
or_swap true false c = refl
or_swap false true c = refl
or_swap false false c = refl

module _ (f : Form) (no_settings : (n : Text) → IsIn n f.settings → ⊥) (m : Text) where
  among_gathered : (before : List Text) (pieces : List Piece) → ArePiecesOf f pieces → is_among m (gathered before pieces) ≡ (is_among m before || is_among m (options_of pieces))
  among_gathered before [] are = go (is_among m before)
    where
      go : (b : Bool) → b ≡ (b || false)
      go true = refl
      go false = refl
  among_gathered before (flag n ∷ pieces) are =
      among_gathered (n ∷ before) pieces are.1 ∙ or_swap (bytes_eq n m) (is_among m before) (is_among m (options_of pieces))
  among_gathered before (joined n v ∷ pieces) are = absurd (no_settings n are.0)
  among_gathered before (parted n v ∷ pieces) are = absurd (no_settings n are.0.0)
  among_gathered before (operand w ∷ pieces) are = among_gathered before pieces are.1

-- ---- words behind words

abbrev is_any : List Text → Bool
is_any [] = false
is_any (w ∷ ws) = true

regroup_words : (words : List Text) (p : Option Text) (w : Text) (ws : List Text) → with_word (with_word words p) (Some w) ++ ws ≡ with_word words p ++ w ∷ ws
regroup_words words p w ws = append_assoc (with_word words p) (w ∷ []) ws

module _ (f : Form) (id : Text) (s : Shape) (answers : AnswersMany f id s) where
  -- the walk passes, and its rows hold these
  record Arrives (rows : List Row) (p : Option Text) (after trailing : Bool) (all flags words : List Text) : Type 0 where
    rows_at : List Row
    reaches : Reaches s (at_many id rows p after trailing) all rows_at
    holds : Holds f.flags id flags words rows_at

  arrive_as : (rows : List Row) (p : Option Text) (after trailing : Bool) (all flags one other : List Text) → one ≡ other
      → Arrives rows p after trailing all flags one → Arrives rows p after trailing all flags other
  arrive_as rows p after trailing all flags one other e h = subst (λ (ws : List Text). Arrives rows p after trailing all flags ws) e h

  at_end : (rows : List Row) (p : Option Text) (after trailing : Bool) (flags words : List Text) → Holds f.flags id flags words rows
      → Arrives rows p after trailing [] flags (with_word words p)
  at_end rows p after trailing flags words h = record {
    rows_at = extend_many id rows p;
    reaches = record {
      faults = rw (answers.again, settles s answers.again id answers.named rows p, settled_many s answers.again id answers.named rows p) refl;
      are = settled_many s answers.again id answers.named rows p;
    };
    holds = word_held f.flags id answers.apart flags words rows p h;
  }

  -- ---- a line passes

  words_arrive : (ws : List Text) (rows : List Row) (p : Option Text) (after : Bool) (flags words : List Text) → Holds f.flags id flags words rows
      → Arrives rows p after true ws flags (with_word words p ++ ws)
  words_arrive [] rows p after flags words h =
      arrive_as rows p after true [] flags (with_word words p) (with_word words p ++ []) (sym (append-nil (with_word words p))) (at_end rows p after true flags words h)
  words_arrive (w ∷ ws) rows p after flags words h =
      let later = words_arrive ws (extend_many id rows p) (Some w) true flags (with_word words p) (word_held f.flags id answers.apart flags words rows p h) in
      arrive_as rows p after true (w ∷ ws) flags _ _ (regroup_words words p w ws) (record {
        rows_at = later.rows_at;
        reaches = reach s (at_many id rows p after true) (at_many id (extend_many id rows p) (Some w) true true) w ws later.rows_at
            (many_word_turn s answers.again id answers.named rows p answers.placed w after true (inl refl))
            (many_word_walk s answers.again id answers.named rows p answers.placed w after true (inl refl)) later.reaches;
        holds = later.holds;
      })

  pieces_arrive : (pieces : List Piece) (rest : Option (List Text)) (rows : List Row) (p : Option Text) (after : Bool) (flags words : List Text) → Holds f.flags id flags words rows
      → ArePiecesOf f pieces → Once flags pieces
      → Arrives rows p after false (flat_map piece_words pieces ++ rest_words rest) (gathered flags pieces) (with_word words p ++ (free_words pieces ++ rest_operands rest))
  pieces_arrive [] None rows p after flags words h are once =
      arrive_as rows p after false [] flags (with_word words p) (with_word words p ++ []) (sym (append-nil (with_word words p))) (at_end rows p after false flags words h)
  pieces_arrive [] (Some ws) rows p after flags words h are once =
      let later = words_arrive ws rows p after flags words h in record {
        rows_at = later.rows_at;
        reaches = reach s (at_many id rows p after false) (at_many id rows p after true) dashes ws later.rows_at
            (many_dashes_turn s answers.again id answers.named rows p after) (many_dashes_walk s answers.again id answers.named rows p after) later.reaches;
        holds = later.holds;
      }
  pieces_arrive (flag n ∷ pieces) rest rows p after flags words h are once =
      let held = word_held f.flags id answers.apart flags words rows p h in
      let at = extend_many id rows p in
      let had = flag_had f.flags id answers.apart flags (with_word words p) at held n are.0 ∙ once.0 in
      let word = answers.names n are.0 in
      let found = answers.flags n are.0 in
      let now = flag_held f.flags id answers.apart flags (with_word words p) at held n are.0 in
      let later = pieces_arrive pieces rest (at ++ flag_row n ∷ []) None false (n ∷ flags) (with_word words p) now are.1 once.1 in record {
        rows_at = later.rows_at;
        reaches = reach s (at_many id rows p after false) (at_many id (at ++ flag_row n ∷ []) None false false) (option_word n) _ later.rows_at
            (many_flag_turn s answers.again id answers.named rows p (option_word n) n word.0 after word.1 found ∙ rw had refl)
            (many_flag_walk s answers.again id answers.named rows p (option_word n) n word.0 after word.1 found had) later.reaches;
        holds = later.holds;
      }
  pieces_arrive (joined n v ∷ pieces) rest rows p after flags words h are once = absurd (answers.settings n are.0)
  pieces_arrive (parted n v ∷ pieces) rest rows p after flags words h are once = absurd (answers.settings n are.0.0)
  pieces_arrive (operand w ∷ pieces) rest rows p after flags words h are once =
      let plain = free_plain w are.0 in
      let later = pieces_arrive pieces rest (extend_many id rows p) (Some w) true flags (with_word words p) (word_held f.flags id answers.apart flags words rows p h) are.1 once in
      arrive_as rows p after false _ _ _ _ (regroup_words words p w (free_words pieces ++ rest_operands rest)) (record {
        rows_at = later.rows_at;
        reaches = reach s (at_many id rows p after false) (at_many id (extend_many id rows p) (Some w) true false) w _ later.rows_at
            (many_word_turn s answers.again id answers.named rows p answers.placed w after false (inr plain))
            (many_word_walk s answers.again id answers.named rows p answers.placed w after false (inr plain)) later.reaches;
        holds = later.holds;
      })

  -- ---- the line of words that pass

  record Finds (before words : List Text) : Type 0 where
    pieces : List Piece
    rest : Option (List Text)
    are : words ≡ flat_map piece_words pieces ++ rest_words rest
    of : ArePiecesOf f pieces
    once : Once before pieces

  one_more : (before later : List Text) (piece : Piece) (words all : List Text) → all ≡ piece_words piece ++ words
      → ((pieces : List Piece) → ArePiecesOf f pieces → ArePiecesOf f (piece ∷ pieces)) → ((pieces : List Piece) → Once later pieces → Once before (piece ∷ pieces))
      → Finds later words → Finds before all
  one_more before later piece words all is of once h = record {
    pieces = piece ∷ h.pieces;
    rest = h.rest;
    are = is ∙ (ap (λ t. piece_words piece ++ t) h.are ∙ sym (append_assoc (piece_words piece) (flat_map piece_words h.pieces) (rest_words h.rest)));
    of = of h.pieces h.of;
    once = once h.pieces h.once;
  }

  abbrev Shorter : ℕ → Type 0
  Shorter k = (all : List Text) (rows : List Row) (p : Option Text) (after : Bool) (flags words : List Text) → length all ≤ k → AllByRecursion IsUtf8 all
      → Holds f.flags id flags words rows → run_fault s (at_many id rows p after false) all ≡ [] → Finds flags all

  module _ (k : ℕ) (rec : Shorter k) (rows : List Row) (p : Option Text) (after : Bool) (flags words : List Text) (h : Holds f.flags id flags words rows) where
    at_dashes : (w : Text) (ws : List Text) → w ≡ dashes → Finds flags (w ∷ ws)
    at_dashes w ws is = record { pieces = []; rest = Some ws; are = ap (λ (x : Text). x ∷ ws) is; of = tt; once = tt }

    at_flag : (w n : Text) (ws : List Text) → length ws ≤ k → AllByRecursion IsUtf8 ws → w ≡ option_word n → IsIn n f.flags
        → run_fault s (at_many id rows p after false) (w ∷ ws) ≡ [] → Finds flags (w ∷ ws)
    at_flag w n ws short utf8 is i none0 =
        let start = at_many id rows p after false in
        let none = word_as s start w (option_word n) ws is none0 in
        let held = word_held f.flags id answers.apart flags words rows p h in
        let at = extend_many id rows p in
        let word = answers.names n i in
        let found = answers.flags n i in
        let turn = sym (flag_again f.flags id answers.apart flags (with_word words p) at held n i)
        ∙ (sym (many_flag_turn s answers.again id answers.named rows p (option_word n) n word.0 after word.1 found) ∙ turn_none s start (option_word n) ws none) in
        let new = no_conflict (is_among n flags) turn in
        let had = flag_had f.flags id answers.apart flags (with_word words p) at held n i ∙ new in
        let now = flag_held f.flags id answers.apart flags (with_word words p) at held n i in
        let next = many_flag_walk s answers.again id answers.named rows p (option_word n) n word.0 after word.1 found had in
        let later = rec ws (at ++ flag_row n ∷ []) None false (n ∷ flags) (with_word words p) short utf8 now (rest_none s start _ (option_word n) ws next none) in
        one_more flags (n ∷ flags) (flag n) ws (w ∷ ws) (ap (λ (x : Text). x ∷ ws) is) (λ pieces o. (i, o)) (λ pieces o. (new, o)) later
      where
        no_conflict : (b : Bool) → (if b then kind.ArgumentConflict ∷ [] else []) ≡ [] → b ≡ false
        no_conflict true e = cc
        no_conflict false e = refl

    at_operand : (w : Text) (ws : List Text) → length ws ≤ k → AllByRecursion IsUtf8 ws → is_free w ≡ true
        → run_fault s (at_many id rows p after false) (w ∷ ws) ≡ [] → Finds flags (w ∷ ws)
    at_operand w ws short utf8 plain none =
        let next = many_word_walk s answers.again id answers.named rows p answers.placed w after false (inr (free_plain w plain)) in
        let later = rec ws (extend_many id rows p) (Some w) true flags (with_word words p) short utf8 (word_held f.flags id answers.apart flags words rows p h)
        (rest_none s (at_many id rows p after false) _ w ws next none) in
        one_more flags flags (operand w) ws (w ∷ ws) refl (λ pieces o. (plain, o)) (λ pieces o. o) later

    at_long : (w : Text) (ws : List Text) → length ws ≤ k → AllByRecursion IsUtf8 ws → (o : IsOption w) → w ≡ spelled o.name o.value
        → run_fault s (at_many id rows p after false) (w ∷ ws) ≡ [] → Finds flags (w ∷ ws)
    at_long w ws short utf8 o is none = go o.value refl (answers.others o.name)
      where
        turn : turn_fault s [] (at_many id rows p after false) w ≡ []
        turn = turn_none s (at_many id rows p after false) w ws none

        go : (v : Option Text) → o.value ≡ v → IsIn o.name f.flags ⊎ ((arg_by_long s.rules o.name ≡ None) ⊎ (arg_by_long s.rules o.name ≡ Some built_help)) → Finds flags (w ∷ ws)
        go None e (inl i) = at_flag w o.name ws short utf8 (is ∙ ap (spelled o.name) e) i none
        go (Some v) e (inl i) =
            absurd (many_valued_turn s answers.again id answers.named rows p w o.name o.apart after v (o.long ∙ ap (λ (x : Option Text). Some (o.name, x)) e) (answers.flags o.name i) turn)
        go v e (inr (inl absent)) = absurd (many_unknown_turn s answers.again id answers.named rows p w o.name o.apart after o.value o.long absent turn)
        go v e (inr (inr help)) = absurd (many_help_turn s answers.again id answers.named rows p w o.name o.apart after o.value o.long help turn)

    at_word : (w : Text) (ws : List Text) → length ws ≤ k → AllByRecursion IsUtf8 (w ∷ ws) → run_fault s (at_many id rows p after false) (w ∷ ws) ≡ [] → Look w
        → Finds flags (w ∷ ws)
    at_word w ws short utf8 none (inl plain) = at_operand w ws short utf8.1 plain none
    at_word w ws short utf8 none (inr (inl double)) = at_dashes w ws double
    at_word w ws short utf8 none (inr (inr (inl long))) = at_long w ws short utf8.1 (long_option w long).0 (long_option w long).1 none
    at_word w ws short utf8 none (inr (inr (inr bundle))) =
        absurd (many_short_turn s answers.again id answers.named rows p w after answers.shorts utf8.0 bundle (turn_none s (at_many id rows p after false) w ws none))

  finds : (k : ℕ) → Shorter k
  finds k [] rows p after flags words short utf8 h none = record { pieces = []; rest = None; are = refl; of = tt; once = tt }
  finds zero (w ∷ ws) rows p after flags words short utf8 h none = absurd (omega arith)
  finds (suc k) (w ∷ ws) rows p after flags words short utf8 h none = at_word k (finds k) rows p after flags words h w ws (omega arith) utf8 none (look w)

  -- ---- the end

  module _ (rows : List Row) (flags words : List Text) (h : Holds f.flags id flags words rows) where
    abbrev final : List Row
    final = fold with_default rows s.rules

    words_found : find_in id final ≡ words_row id words
    words_found = final_find id rows s.rules ∙ (ap₂ option_or h.words_are answers.no_default ∙ or_none (words_row id words))

    flag_found : (n : Text) → IsIn n f.flags → find_in n final ≡ option_or (flag_if n (is_among n flags)) (Some (row_of DefaultValue n (codes "false")))
    flag_found n i = final_find n rows s.rules ∙ ap₂ option_or (h.flags_are n i) (answers.flag_defaults n i)

    one_read : (n : Text) → IsIn n f.flags → one_of n final ≡ Some (flag_text (is_among n flags))
    one_read n i = ap (option_and_then row_text) (flag_found n i) ∙ go (is_among n flags)
      where
        go : (b : Bool) → option_and_then row_text (option_or (flag_if n b) (Some (row_of DefaultValue n (codes "false")))) ≡ Some (flag_text b)
        go true = refl
        go false = refl

    first_read : (n : Text) → IsIn n f.flags → first_of n final ≡ Some (flag_text (is_among n flags))
    first_read n i = ap (option_and_then (λ r. slice_get r.values 0)) (flag_found n i) ∙ go (is_among n flags)
      where
        go : (b : Bool) → option_and_then (λ r. slice_get r.values 0) (option_or (flag_if n b) (Some (row_of DefaultValue n (codes "false")))) ≡ Some (flag_text b)
        go true = refl
        go false = refl

    all_read : 0 < length words → all_of id final ≡ Some words
    all_read some = ap (option_map (λ r. r.values)) words_found ∙ go words some
      where
        go : (ws : List Text) → 0 < length ws → option_map (λ r. r.values) (words_row id ws) ≡ Some ws
        go [] some = absurd (omega arith)
        go (w ∷ ws) some = refl

    given : is_given_in id final ≡ is_any words
    given = ap (λ o. option_map_or (λ r. explicit_source r.source) o false) words_found ∙ go words
      where
        go : (ws : List Text) → option_map_or (λ r. explicit_source r.source) (words_row id ws) false ≡ is_any ws
        go [] = refl
        go (w ∷ ws) = refl

    ends : end_of s rows ≡ (if not (is_any words) then kind.MissingRequiredArgument ∷ [] else [])
    ends = rw (no_default_fault s.rules rows answers.fine, answers.wants final, given) refl

  start : Holds f.flags id [] [] []
  start = none_held f.flags id

  abbrev final_of : List Text → List Row
  final_of all = rows_after s.rules [] all

  -- the line passes, and its rows hold what it has
  module _ (l : Line) (pieces : ArePiecesOf f l.pieces) (once : NoneTwice (options_of l.pieces)) where
    arrived : Arrives [] None false false (line_words l) (gathered [] l.pieces) (operands_of l)
    arrived = pieces_arrive l.pieces l.rest [] None false [] [] start pieces (none_once f answers.settings [] l.pieces pieces once (λ m i. refl))

    final_is : final_of (line_words l) ≡ fold with_default arrived.rows_at s.rules
    final_is = ap (λ rows. fold with_default rows s.rules) arrived.reaches.are

    flag_is : (n : Text) → is_among n (gathered [] l.pieces) ≡ is_given n l
    flag_is n = among_gathered f answers.settings n [] l.pieces pieces

    pub many_flag : (n : Text) → IsIn n f.flags → one_of n (final_of (line_words l)) ≡ Some (flag_text (is_given n l))
    many_flag n i = ap (one_of n) final_is ∙ (one_read arrived.rows_at _ _ arrived.holds n i ∙ ap (λ b. Some (flag_text b)) (flag_is n))

    many_first : (n : Text) → IsIn n f.flags → first_of n (final_of (line_words l)) ≡ Some (flag_text (is_given n l))
    many_first n i = ap (first_of n) final_is ∙ (first_read arrived.rows_at _ _ arrived.holds n i ∙ ap (λ b. Some (flag_text b)) (flag_is n))

    pub many_on : (n : Text) → IsIn n f.flags → is_on n (final_of (line_words l)) ≡ is_given n l
    many_on n i = ap (λ o. option_map_or (λ text. bytes_eq text (codes "true")) o false) (many_first n i) ∙ go (is_given n l)
      where
        go : (b : Bool) → bytes_eq (flag_text b) (codes "true") ≡ b
        go true = refl
        go false = refl

    pub many_words : 0 < length (operands_of l) → all_of id (final_of (line_words l)) ≡ Some (operands_of l)
    many_words some = ap (all_of id) final_is ∙ all_read arrived.rows_at _ _ arrived.holds some

    many_fault : level_fault s [] nothing_held (line_words l) false [] ≡ (if not (is_any (operands_of l)) then kind.MissingRequiredArgument ∷ [] else [])
    many_fault = level_is s (line_words l) ∙ (arrived.reaches.faults ∙ ends arrived.rows_at _ _ arrived.holds)

    pub many_passes : 0 < length (operands_of l) → level_fault s [] nothing_held (line_words l) false [] ≡ []
    many_passes some = many_fault ∙ go (operands_of l) some
      where
        go : (ws : List Text) → 0 < length ws → (if not (is_any ws) then kind.MissingRequiredArgument ∷ [] else []) ≡ []
        go [] some = absurd (omega arith)
        go (w ∷ ws) some = refl

    some_operand : level_fault s [] nothing_held (line_words l) false [] ≡ [] → 0 < length (operands_of l)
    some_operand none = go (operands_of l) (sym many_fault ∙ none)
      where
        go : (ws : List Text) → (if not (is_any ws) then kind.MissingRequiredArgument ∷ [] else []) ≡ [] → 0 < length ws
        go [] e = let bad : kind.MissingRequiredArgument ∷ [] ≡ [] = e in cc
        go (w ∷ ws) e = omega arith

  pub record FoundMany (words : List Text) : Type 0 where
    pub line : Line
    pub are : words ≡ line_words line
    pub pieces : ArePiecesOf f line.pieces
    pub once : NoneTwice (options_of line.pieces)
    pub some : 0 < length (operands_of line)

  pub many_found : (words : List Text) → AllByRecursion IsUtf8 words → level_fault s [] nothing_held words false [] ≡ [] → FoundMany words
  many_found words utf8 none =
      let found = finds (length words) words [] None false [] [] (omega arith) utf8 start (sym (level_is s words) ∙ none) in
      let l : Line = record { pieces = found.pieces; rest = found.rest } in
      let once = (once_none f answers.settings [] found.pieces found.of found.once).0 in record {
        line = l;
        are = found.are;
        pieces = found.of;
        once = once;
        some = some_operand l found.of once (subst (λ ws. level_fault s [] nothing_held ws false [] ≡ []) found.are none);
      }
