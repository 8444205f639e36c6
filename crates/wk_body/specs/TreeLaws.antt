-- The tokens of a tree give it back.
use Rattle.std.specs.Prelude.{◌≡◌, List, [], ◌∷◌, ◌++◌}
use Rattle.std.proofs.Common.{refl, ap, ◌∙◌}
use Rattle.wk_body.specs.Tree.{Instrs, Finish, One, Block, If, Tok, Simple, Open, OpenIf, Otherwise, Close, else_part, flatten, tokens_of, Part, before, over}
use Rattle.wk_body.specs.Tree.{first_part, tree_of, append, onto}

pub append-Finish : (t : Instrs) → append t Finish ≡ t
append-Finish Finish = refl
append-Finish (One p rest) = ap (One p) (append-Finish rest)
append-Finish (Block kind ty inside rest) = ap (Block kind ty inside) (append-Finish rest)
append-Finish (If ty first second rest) = ap (If ty first second) (append-Finish rest)

pub over-append : (a b : List Tok) (xs : List Part) → over (a ++ b) xs ≡ over a (over b xs)
over-append [] b xs = refl
over-append (t ∷ ts) b xs = ap (before t) (over-append ts b xs)

over-else : (ts : List Tok) (second : Instrs) (xs : List Part)
    → over ts (record { rest = Finish; other = Finish } ∷ xs) ≡ record { rest = second; other = Finish } ∷ xs
    → over (else_part ts) (record { rest = Finish; other = Finish } ∷ xs) ≡ record { rest = Finish; other = second } ∷ xs
over-else [] second xs e = ap (before (Otherwise 0)) e
over-else (t ∷ ts) second xs e = ap (before (Otherwise 0)) e

pub over-flatten : (t : Instrs) (x : Part) (xs : List Part) → over (flatten t) (x ∷ xs) ≡ onto t (x ∷ xs)
over-flatten Finish x xs = refl
over-flatten (One p rest) x xs = ap (before (Simple p)) (over-flatten rest x xs)
over-flatten (Block kind ty inside rest) x xs =
    ap (before (Open kind ty 0)) (over-append (flatten inside) (Close ∷ flatten rest) (x ∷ xs)
    ∙ ap (λ (ys : List Part). over (flatten inside) (before Close ys)) (over-flatten rest x xs)
    ∙ over-flatten inside (record { rest = Finish; other = Finish }) (onto rest (x ∷ xs))
    ∙ ap (λ (y : Instrs). record { rest = y; other = Finish } ∷ onto rest (x ∷ xs)) (append-Finish inside))
over-flatten (If ty first second rest) x xs =
    let behind = onto rest (x ∷ xs) in
    let alt : over (flatten second) (record { rest = Finish; other = Finish } ∷ behind) ≡ record { rest = second; other = Finish } ∷ behind =
    over-flatten second (record { rest = Finish; other = Finish }) behind
    ∙ ap (λ (y : Instrs). record { rest = y; other = Finish } ∷ behind) (append-Finish second) in
    ap (before (OpenIf ty 0)) (over-append (flatten first ++ else_part (flatten second)) (Close ∷ flatten rest) (x ∷ xs)
    ∙ ap (λ (ys : List Part). over (flatten first ++ else_part (flatten second)) (before Close ys)) (over-flatten rest x xs)
    ∙ over-append (flatten first) (else_part (flatten second)) (before Close behind)
    ∙ ap (over (flatten first)) (over-else (flatten second) second behind alt)
    ∙ over-flatten first (record { rest = Finish; other = second }) behind
    ∙ ap (λ (y : Instrs). record { rest = y; other = second } ∷ behind) (append-Finish first))

-- the tokens of a tree spell it
pub tree_of-flatten : (t : Instrs) → tree_of (tokens_of t) ≡ t
tree_of-flatten t = ap first_part (over-append (flatten t) (Close ∷ []) [] ∙ over-flatten t (record { rest = Finish; other = Finish }) []) ∙ append-Finish t
