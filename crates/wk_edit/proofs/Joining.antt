-- Bytes that are joined by a separator, and cut at it.
use Rattle.std.proofs.Common.{◌≡◌, ◌==◌, ℕ, false, List, [], ◌∷◌, refl, ap, ◌∙◌}
use Rattle.std.specs.Prelude.{All}
use Rattle.std.specs.List.{join_with_byte}
use Rattle.std.proofs.lemmas.Bool.{eq-eqb}
use Rattle.std.proofs.lemmas.List.Elements.{All-nil, All-cons, All-append, All-head, All-tail}
use Rattle.std.proofs.lemmas.List.Splits.{slice_split_none, slice_split_at}
use Rattle.wk_edit.specs.Pieces.{pieces}

-- a byte does not stand in the bytes
abbrev pub IsWithout : ℕ → List ℕ → Type 0
IsWithout c bytes = All (λ x. (x == c) ≡ false) bytes

-- what was joined by a byte that stands in no piece is cut into the pieces
pub pieces-join : (c : ℕ) (w : List ℕ) (ws : List (List ℕ)) → All (IsWithout c) (w ∷ ws) → pieces c (join_with_byte c (w ∷ ws)) ≡ w ∷ ws
pieces-join c w [] free = slice_split_none (λ b. b == c) w (All-head (IsWithout c) w [] free)
pieces-join c w (v ∷ ws) free =
    slice_split_at (λ b. b == c) w c (join_with_byte c (v ∷ ws)) (All-head (IsWithout c) w (v ∷ ws) free) (eq-eqb c c refl)
    ∙ ap (λ (rest : List (List ℕ)). w ∷ rest) (pieces-join c v ws (All-tail (IsWithout c) w (v ∷ ws) free))

-- what holds of the pieces' bytes and of the separator holds of all bytes
pub All-join : (P : ℕ → Type 0) (c : ℕ) (ws : List (List ℕ)) → P c → All (λ w. All P w) ws → All P (join_with_byte c ws)
All-join P c [] here each = All-nil P
All-join P c (w ∷ []) here each = All-head (λ v. All P v) w [] each
All-join P c (w ∷ v ∷ ws) here each =
    All-append P w (c ∷ join_with_byte c (v ∷ ws)) (All-head (λ u. All P u) w (v ∷ ws) each)
    (All-cons P c (join_with_byte c (v ∷ ws)) here (All-join P c (v ∷ ws) here (All-tail (λ u. All P u) w (v ∷ ws) each)))
