-- Texts of lists, item after item.
use Rattle.std.proofs.Common.{◌≡◌, ℕ, zero, suc, ◌+◌, ◌<◌, List, [], ◌∷◌, ◌++◌, length, get_or, slice_index_or, drop, refl, sym, ap, ◌∙◌, arith, append_assoc}
use Rattle.std.proofs.lemmas.List.{at_drop_more}
use Rattle.wk_list.specs.Text.{numbered}

-- the lines from an item on, by indexes of which the first item of all has `first`
abbrev pub lines_from : {A : Type 0} → (ℕ → A → List ℕ) → ℕ → ℕ → List A → List ℕ
lines_from line first i items = numbered (λ n. line (first + n)) i (drop i items)

-- ... the first of which was gathered
pub line_put : {A : Type 0} (line : ℕ → A → List ℕ) (items : List A) (first at i : ℕ) (x : A) (t new : List ℕ) → at ≡ first → i < length items
    → x ≡ get_or items i x → new ≡ t ++ line (at + i) x → t ++ lines_from line first i items ≡ new ++ lines_from line first (i + 1) items
line_put line items first at i x t new same within is put =
    let later = lines_from line first (i + 1) items in
    ap (λ (r : List ℕ). t ++ r) (at_drop_more (numbered (λ n. line (first + n)) i) items i x within ∙ ap (λ y. line (first + i) y ++ later) (sym is))
    ∙ sym (ap (λ (r : List ℕ). r ++ later) (put ∙ ap (λ (n : ℕ). t ++ line (n + i) x) same) ∙ append_assoc t (line (first + i) x) later)

-- a line that was gathered in two pieces
pub two_put : (t mid new a b : List ℕ) → mid ≡ t ++ a → new ≡ mid ++ b → new ≡ t ++ (a ++ b)
two_put t mid new a b p q = q ∙ ap (λ (r : List ℕ). r ++ b) p ∙ append_assoc t a b

-- an index of a list is that of an item
pub item_at : {A : Type 0} (items : List A) (i : ℕ) → i < length items → (x : A) × ((other : A) → slice_index_or items i other ≡ x)
item_at [] i within = absurd (omega arith)
item_at (x ∷ xs) zero within = (x, λ other. refl)
item_at (x ∷ xs) (suc i) within = item_at xs i (omega arith)
