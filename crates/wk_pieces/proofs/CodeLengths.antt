-- How long codes are, one after the other.
use Rattle.std.proofs.Common.{◌≡◌, ℕ, ◌+◌, Some, List, [], ◌∷◌, ◌++◌, length, take, slice_get, sym, ap, ◌∙◌, arith}
use Rattle.std.proofs.lemmas.List.{take_more}
use Rattle.std.proofs.lemmas.List.Sums.{sum_by-append}
use Rattle.std.proofs.lemmas.Option.{get_or_from_slice_get, slice_get_within}
use Rattle.wk_module.specs.Sizes.{entry_size}
use Rattle.wk_pieces.specs.Pieces.{entries_size}

entries_push : (codes : List (List ℕ)) (code : List ℕ) → entries_size codes + entry_size (length code) ≡ entries_size (codes ++ code ∷ [])
entries_push codes code =
    let size : List ℕ → ℕ = λ c. entry_size (length c) in
    let one : entries_size (code ∷ []) ≡ size code = omega arith in
    omega (arith, one, sum_by-append size codes (code ∷ []))

-- one code more
pub entries_next : (codes : List (List ℕ)) (i : ℕ) (code : List ℕ) → slice_get codes i ≡ Some code
    → entries_size (take i codes) + entry_size (length code) ≡ entries_size (take (i + 1) codes)
entries_next codes i code there =
    let at = get_or_from_slice_get codes i code code there in
    let more = take_more codes i code (slice_get_within codes i code there) ∙ ap (λ (c : List ℕ). take i codes ++ c ∷ []) at in
    entries_push (take i codes) code ∙ ap entries_size (sym more)
