-- Sections with a heading.
use Rattle.std.proofs.Common.{◌≡◌, ℕ, ◌==◌, false, if◌then◌else◌, Some, Option, List, [], ◌∷◌, ◌++◌, length, codes, decimal, sym, ap, ◌∙◌, append_assoc}
use Rattle.std.proofs.Common.{append-nil, arith}
use Rattle.std.proofs.lemmas.Bool.{ne_eqb}
use Rattle.wk_list.specs.Details.{heading, with_heading, start_line}

-- the heading was gathered, where there are items, whose lines come next
pub heading_put : {A : Type 0} (id : ℕ) (lines : List A → List ℕ) → lines [] ≡ [] → (items : List A) (n : ℕ) (t new : List ℕ) → n ≡ length items
    → new ≡ t ++ (if n == 0 then [] else heading id n) → t ++ with_heading id items (lines items) ≡ new ++ lines items
heading_put id lines none [] n t new many put =
    sym (ap (λ (r : List ℕ). new ++ r) none ∙ append-nil new ∙ put ∙ ap (λ (k : ℕ). t ++ (if k == 0 then [] else heading id k)) many)
heading_put id lines none (x ∷ xs) n t new many put =
    let some : (length (x ∷ xs) == 0) ≡ false = ne_eqb (length (x ∷ xs)) 0 (omega arith) in
    sym (ap (λ (r : List ℕ). r ++ lines (x ∷ xs)) (put ∙ ap (λ (k : ℕ). t ++ (if k == 0 then [] else heading id k)) many
    ∙ ap (λ b. t ++ (if b then [] else heading id (length (x ∷ xs)))) some)
    ∙ append_assoc t (heading id (length (x ∷ xs))) (lines (x ∷ xs)))

-- ---- the start section

-- what was put in three pieces
pub regroup : (t a b c : List ℕ) → ((t ++ a) ++ b) ++ c ≡ t ++ (a ++ (b ++ c))
regroup t a b c = simp append_assoc

pub start_put : (start : Option ℕ) (index n : ℕ) (t one two three : List ℕ) → start ≡ Some index → n ≡ index → one ≡ t ++ codes "Start:\n - start "
    → two ≡ one ++ decimal n → three ≡ two ++ codes "\n"
    → three ≡ t ++ start_line start
start_put start index n t one two three is same label number end =
    end ∙ ap (λ (r : List ℕ). r ++ codes "\n")
    (number ∙ ap (λ (r : List ℕ). r ++ decimal n) label ∙ ap (λ (k : ℕ). (t ++ codes "Start:\n - start ") ++ decimal k) same)
    ∙ regroup t (codes "Start:\n - start ") (decimal index) (codes "\n") ∙ ap (λ (s : Option ℕ). t ++ start_line s) (sym is)
