-- What is found in the rows of a line.
use Rattle.std.proofs.Common.{◌≡◌, ◌⊎◌, ◌∙◌, Bool, true, false, Option, Some, None, List, [], ◌∷◌, ◌++◌, refl, sym, subst, ap, inl, inr}
use Rattle.std.specs.Prelude.{if◌then◌else◌, option_map}
use Rattle.std.specs.List.{list_any}
use Rattle.std.specs.Str.{bytes_eq}
use Rattle.std.proofs.lemmas.Slice.Eq.{bytes_eq-Decides}
use Rattle.clap.specs.Walk.{Row, Text}
use Rattle.wk_command_line.specs.CommandLine.{Form, IsIn, Piece, flag, joined, parted, operand, free_words, options_of, value_in, ArePiecesOf}
use Rattle.wk_command_line.proofs.Rows.{flag_row, text_row}
use Rattle.wk_command_line.proofs.LineWalks.{given_rows, word_rows}
use Rattle.wk_command_line.proofs.LineEnds.{find_in}

differs : (x y : Text) → (x ≡ y → ⊥) → bytes_eq x y ≡ false
differs x y h = go (bytes_eq x y) refl
  where
    go : (b : Bool) → bytes_eq x y ≡ b → bytes_eq x y ≡ false
    go true e = absurd (h ((bytes_eq-Decides x y).0 e))
    go false e = e

not_words : (n : Text) (names words : List Text) → (IsIn n names → ⊥) → find_in n (word_rows names words) ≡ None
not_words n names [] out = refl
not_words n [] (w ∷ ws) out = refl
not_words n (id ∷ names) (w ∷ ws) out = rw (differs id n (λ e. out (inl (sym e)))) (not_words n names ws (λ i. out (inr i)))

abbrev given_flag : Text → Bool → Option Row
given_flag n b = if b then Some (flag_row n) else None

module _ (f : Form) (n : Text) where
  pub find_flag : (IsIn n f.settings → ⊥) → (names : List Text) (pieces : List Piece) (words : List Text) → (IsIn n names → ⊥) → ArePiecesOf f pieces
      → find_in n (given_rows names pieces words) ≡ (if list_any (λ option. bytes_eq option n) (options_of pieces) then Some (flag_row n) else None)
  find_flag sort names [] words out are = not_words n names words out
  find_flag sort names (flag m ∷ pieces) words out are = go (bytes_eq m n) refl (find_flag sort names pieces words out are.1)
    where
      go : (b : Bool) → bytes_eq m n ≡ b → find_in n (given_rows names pieces words) ≡ given_flag n (list_any (λ option. bytes_eq option n) (options_of pieces))
          → find_in n (given_rows names (flag m ∷ pieces) words) ≡ given_flag n (list_any (λ option. bytes_eq option n) (options_of (flag m ∷ pieces)))
      go true e rec = rw e (ap (λ x. Some (flag_row x)) ((bytes_eq-Decides m n).0 e))
      go false e rec = rw e rec
  find_flag sort names (joined m v ∷ pieces) words out are =
      rw (differs m n (λ e. sort (subst (λ z. IsIn z f.settings) e are.0))) (find_flag sort names pieces words out are.1)
  find_flag sort names (parted m v ∷ pieces) words out are =
      rw (differs m n (λ e. sort (subst (λ z. IsIn z f.settings) e are.0.0))) (find_flag sort names pieces words out are.1)
  find_flag sort [] (operand w ∷ pieces) words out are = find_flag sort [] pieces words out are.1
  find_flag sort (id ∷ names) (operand w ∷ pieces) words out are =
      rw (differs id n (λ e. out (inl (sym e)))) (find_flag sort names pieces words (λ i. out (inr i)) are.1)

  pub find_setting : (IsIn n f.flags → ⊥) → (names : List Text) (pieces : List Piece) (words : List Text) → (IsIn n names → ⊥) → ArePiecesOf f pieces
      → find_in n (given_rows names pieces words) ≡ option_map (text_row n) (value_in n pieces)
  find_setting sort names [] words out are = not_words n names words out
  find_setting sort names (flag m ∷ pieces) words out are =
      rw (differs m n (λ e. sort (subst (λ z. IsIn z f.flags) e are.0))) (find_setting sort names pieces words out are.1)
  find_setting sort names (joined m v ∷ pieces) words out are = go (bytes_eq m n) refl (find_setting sort names pieces words out are.1)
    where
      go : (b : Bool) → bytes_eq m n ≡ b → find_in n (given_rows names pieces words) ≡ option_map (text_row n) (value_in n pieces)
          → find_in n (given_rows names (joined m v ∷ pieces) words) ≡ option_map (text_row n) (value_in n (joined m v ∷ pieces))
      go true e rec = rw e (ap (λ x. Some (text_row x v)) ((bytes_eq-Decides m n).0 e))
      go false e rec = rw e rec
  find_setting sort names (parted m v ∷ pieces) words out are = go (bytes_eq m n) refl (find_setting sort names pieces words out are.1)
    where
      go : (b : Bool) → bytes_eq m n ≡ b → find_in n (given_rows names pieces words) ≡ option_map (text_row n) (value_in n pieces)
          → find_in n (given_rows names (parted m v ∷ pieces) words) ≡ option_map (text_row n) (value_in n (parted m v ∷ pieces))
      go true e rec = rw e (ap (λ x. Some (text_row x v)) ((bytes_eq-Decides m n).0 e))
      go false e rec = rw e rec
  find_setting sort [] (operand w ∷ pieces) words out are = find_setting sort [] pieces words out are.1
  find_setting sort (id ∷ names) (operand w ∷ pieces) words out are =
      rw (differs id n (λ e. out (inl (sym e)))) (find_setting sort names pieces words (λ i. out (inr i)) are.1)

  pub find_operand : (IsIn n f.flags ⊎ IsIn n f.settings → ⊥) → (names : List Text) (pieces : List Piece) (words : List Text) → ArePiecesOf f pieces
      → find_in n (given_rows names pieces words) ≡ find_in n (word_rows names (free_words pieces ++ words))
  find_operand out names [] words are = refl
  find_operand out names (flag m ∷ pieces) words are =
      rw (differs m n (λ e. out (inl (subst (λ z. IsIn z f.flags) e are.0)))) (find_operand out names pieces words are.1)
  find_operand out names (joined m v ∷ pieces) words are =
      rw (differs m n (λ e. out (inr (subst (λ z. IsIn z f.settings) e are.0)))) (find_operand out names pieces words are.1)
  find_operand out names (parted m v ∷ pieces) words are =
      rw (differs m n (λ e. out (inr (subst (λ z. IsIn z f.settings) e are.0.0)))) (find_operand out names pieces words are.1)
  find_operand out [] (operand w ∷ pieces) words are = find_operand out [] pieces words are.1 ∙ no_names (free_words pieces ++ words)
    where
      no_names : (ws : List Text) → find_in n (word_rows [] ws) ≡ None
      no_names [] = refl
      no_names (x ∷ xs) = refl
  find_operand out (id ∷ names) (operand w ∷ pieces) words are = go (bytes_eq id n) refl (find_operand out names pieces words are.1)
    where
      go : (b : Bool) → bytes_eq id n ≡ b → find_in n (given_rows names pieces words) ≡ find_in n (word_rows names (free_words pieces ++ words))
          → find_in n (given_rows (id ∷ names) (operand w ∷ pieces) words) ≡ find_in n (word_rows (id ∷ names) (w ∷ free_words pieces ++ words))
      go true e rec = rw e refl
      go false e rec = rw e rec
