-- The room for deferred bodies, by their codes.
use Rattle.std.proofs.Common.{◌≡◌, ℕ, ◌+◌, ◌*◌, ◌<◌, ◌≤◌, Option, Some, None, List, [], ◌∷◌, length, map, take, get_or, refl, sym, ap, ◌∙◌, arith}
use Rattle.std.specs.Prelude.{IfSome}
use Rattle.std.specs.List.{sum_by}
use Rattle.std.specs.Option.{SomeIff}
use Rattle.std.proofs.lemmas.List.{take_all}
use Rattle.std.proofs.lemmas.List.Sums.{sum_by_more, sum_by-cons}
use Rattle.wk_module.specs.declared.types.Func.{Func}
use Rattle.wk_module.specs.Sizes.{body_size}
use Rattle.wk_pieces.specs.Pieces.{code_of}
use Rattle.wk_draft.specs.Drafts.{deferred_room}

-- by how many bytes one may grow, its size with it
abbrev pub grown : List ℕ → ℕ
grown code = 3 * length code + 5

sums_same : (os : List Func) → sum_by grown (map code_of os) ≡ sum_by (λ f. 3 * body_size f.body + 5) os
sums_same [] = refl
sums_same (o ∷ os) =
    sum_by-cons grown (code_of o) (map code_of os)
    ∙ ap (λ n. grown (code_of o) + n) (sums_same os)
    ∙ sym (sum_by-cons (λ (f : Func). 3 * body_size f.body + 5) o os)

pub one_grown : (codes : List (List ℕ)) (i size tripled more total next : ℕ) (code : List ℕ) → i < length codes → code ≡ get_or codes i code
    → size ≡ length code → tripled ≡ size * 3 → more ≡ tripled + 5
    → next ≡ total + more → total ≡ sum_by grown (take i codes) → next ≡ sum_by grown (take (i + 1) codes)
one_grown codes i size tripled more total next code within at measured is_tripled is_more is_next sofar =
    let same : grown code ≡ grown (get_or codes i code) = ap grown at in
    omega (arith, sum_by_more grown codes i code within, same, measured, is_tripled, is_more, is_next, sofar)

pub all_grown : (P : Type 0) (codes : List (List ℕ)) (i total : ℕ) (room : Option ℕ) → length codes ≤ i → total ≡ sum_by grown (take i codes)
    → SomeIff room P (total + 16)
    → IfSome room (λ n. (os : List Func) → codes ≡ map code_of os → n ≡ deferred_room os)
all_grown P codes i total None past is sums = tt
all_grown P codes i total (Some n) past is sums = λ os are.
    let whole : total ≡ sum_by grown (map code_of os) = is ∙ ap (sum_by grown) (take_all i codes past ∙ are) in
    sums.1 ∙ ap (λ t. t + 16) (whole ∙ sums_same os)
