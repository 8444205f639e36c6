-- Listing token by token is listing the tree.
use Rattle.std.proofs.Common.{◌≡◌, ℕ, suc, ◌+◌, ◌-◌, ◌<◌, List, [], ◌∷◌, ◌++◌, length, refl, sym, ap, ◌∙◌, append_assoc, arith, length-append, append-nil}
use Rattle.std.specs.Prelude.{codes}
use Rattle.wk_body.specs.Tree.{Instrs, Finish, One, Block, If, Tok, Simple, Open, OpenIf, Otherwise, Close, flatten, else_part, tokens_of}
use Rattle.wk_body.specs.Spelling.{kind_byte}
use Rattle.wk_body.specs.Written.{plain_bytes, type_bytes, enc, else_bytes, tok_bytes, written_expr}
use Rattle.wk_list.specs.CodeText.{code_line, plain_text, type_text, kind_text, instrs_text, else_text, expr_text}
use Rattle.wk_list.specs.TokenText.{toks_text, toks_length}

-- the same text, from an offset that is said otherwise
from_place : {m n : ℕ} (depth : ℕ) (ts : List Tok) → m ≡ n → toks_text m depth ts ≡ toks_text n depth ts
from_place depth ts e = ap (λ (at : ℕ). toks_text at depth ts) e

-- an end, inside one block more
at_end : (at depth : ℕ) (ts : List Tok) → toks_text at (depth + 1) (Close ∷ ts) ≡ code_line at depth (codes "end") ++ toks_text (at + 1) depth ts
at_end at depth ts = let e : depth + 1 - 1 ≡ depth = omega arith in rw e refl

regroup : (a b c d e : List ℕ) → (a ++ (b ++ (c ++ d))) ++ e ≡ a ++ (b ++ (c ++ (d ++ e)))
regroup a b c d e = simp append_assoc

regroup_more : (a b c d e f : List ℕ) → (a ++ (b ++ (c ++ (d ++ e)))) ++ f ≡ a ++ (b ++ (c ++ (d ++ (e ++ f))))
regroup_more a b c d e f = simp append_assoc

-- an else branch that is not empty, its instructions being listed so
else_some : (at depth n : ℕ) (s : Instrs) (ts : List Tok)
    → toks_text (at + 1) (depth + 1) (flatten s ++ ts) ≡ instrs_text (at + 1) (depth + 1) s ++ toks_text (at + 1 + length (enc s)) (depth + 1) ts
    → toks_text at (depth + 1) (Otherwise n ∷ (flatten s ++ ts))
    ≡ (code_line at depth (codes "else") ++ instrs_text (at + 1) (depth + 1) s) ++ toks_text (at + suc (length (enc s))) (depth + 1) ts
else_some at depth n s ts h =
    let e : depth + 1 - 1 ≡ depth = omega arith in
    let f : at + 1 + length (enc s) ≡ at + suc (length (enc s)) = omega arith in
    rw e (ap (λ (b : List ℕ). code_line at depth (codes "else") ++ b)
    (h ∙ ap (λ (b : List ℕ). instrs_text (at + 1) (depth + 1) s ++ b) (from_place (depth + 1) ts f))
    ∙ sym (append_assoc (code_line at depth (codes "else")) (instrs_text (at + 1) (depth + 1) s) (toks_text (at + suc (length (enc s))) (depth + 1) ts)))

else_listed : (at depth : ℕ) (s : Instrs) (ts : List Tok)
    → toks_text (at + 1) (depth + 1) (flatten s ++ ts) ≡ instrs_text (at + 1) (depth + 1) s ++ toks_text (at + 1 + length (enc s)) (depth + 1) ts
    → toks_text at (depth + 1) (else_part (flatten s) ++ ts)
    ≡ else_text at depth s (instrs_text (at + 1) (depth + 1) s) ++ toks_text (at + length (else_bytes s (enc s))) (depth + 1) ts
else_listed at depth Finish ts h = from_place (depth + 1) ts (omega arith)
else_listed at depth (One p rest) ts h = else_some at depth (length (flatten (One p rest))) (One p rest) ts h
else_listed at depth (Block kind ty inside rest) ts h = else_some at depth (length (flatten (Block kind ty inside rest))) (Block kind ty inside rest) ts h
else_listed at depth (If ty first second rest) ts h = else_some at depth (length (flatten (If ty first second rest))) (If ty first second rest) ts h

length_block : (x : ℕ) (t a b : List ℕ) → length ((x ∷ t) ++ (a ++ 0x0B ∷ b)) ≡ 1 + length t + length a + 1 + length b
length_block x t a b = rw (length-append (x ∷ t) (a ++ 0x0B ∷ b), length-append a (0x0B ∷ b)) (omega arith)

length_if : (x : ℕ) (t a b c : List ℕ) → length ((x ∷ t) ++ (a ++ (b ++ 0x0B ∷ c))) ≡ 1 + length t + length a + length b + 1 + length c
length_if x t a b c = rw (length-append (x ∷ t) (a ++ (b ++ 0x0B ∷ c)), length-append a (b ++ 0x0B ∷ c), length-append b (0x0B ∷ c)) (omega arith)

listed : (at depth : ℕ) (t : Instrs) (ts : List Tok) → toks_text at depth (flatten t ++ ts) ≡ instrs_text at depth t ++ toks_text (at + length (enc t)) depth ts
unfolding instrs_text
listed at depth Finish ts = from_place depth ts (omega arith)
listed at depth (One p rest) ts =
    let here = at + length (plain_bytes p) in
    let e : here + length (enc rest) ≡ at + length (plain_bytes p ++ enc rest) = omega (arith, length-append (plain_bytes p) (enc rest)) in
    let l = code_line at depth (plain_text p) in
    ap (λ (b : List ℕ). l ++ b) (listed here depth rest ts ∙ ap (λ (b : List ℕ). instrs_text here depth rest ++ b) (from_place depth ts e))
    ∙ sym (append_assoc l (instrs_text here depth rest) (toks_text (at + length (plain_bytes p ++ enc rest)) depth ts))
listed at depth (Block kind ty inside rest) ts =
    let in_it = at + suc (length (type_bytes ty)) in
    let end_at = in_it + length (enc inside) in
    let whole = at + length (enc (Block kind ty inside rest)) in
    let e : end_at + 1 + length (enc rest) ≡ whole = omega (arith, length_block (kind_byte kind) (type_bytes ty) (enc inside) (enc rest)) in
    let l = code_line at depth (kind_text kind ++ type_text ty) in
    let l2 = code_line end_at depth (codes "end") in
    ap (λ (us : List Tok). l ++ toks_text in_it (depth + 1) us) (append_assoc (flatten inside) (Close ∷ flatten rest) ts)
    ∙ ap (λ (b : List ℕ). l ++ b) (listed in_it (depth + 1) inside (Close ∷ (flatten rest ++ ts))
    ∙ ap (λ (b : List ℕ). instrs_text in_it (depth + 1) inside ++ b) (at_end end_at depth (flatten rest ++ ts)
    ∙ ap (λ (b : List ℕ). l2 ++ b) (listed (end_at + 1) depth rest ts ∙ ap (λ (b : List ℕ). instrs_text (end_at + 1) depth rest ++ b) (from_place depth ts e))))
    ∙ sym (regroup l (instrs_text in_it (depth + 1) inside) l2 (instrs_text (end_at + 1) depth rest) (toks_text whole depth ts))
listed at depth (If ty first second rest) ts =
    let in_it = at + suc (length (type_bytes ty)) in
    let else_at = in_it + length (enc first) in
    let end_at = else_at + length (else_bytes second (enc second)) in
    let whole = at + length (enc (If ty first second rest)) in
    let e : end_at + 1 + length (enc rest) ≡ whole = omega (arith, length_if 0x04 (type_bytes ty) (enc first) (else_bytes second (enc second)) (enc rest)) in
    let l = code_line at depth (codes "if" ++ type_text ty) in
    let other = else_text else_at depth second (instrs_text (else_at + 1) (depth + 1) second) in
    let l2 = code_line end_at depth (codes "end") in
    ap (λ (us : List Tok). l ++ toks_text in_it (depth + 1) us)
    (append_assoc (flatten first ++ else_part (flatten second)) (Close ∷ flatten rest) ts
    ∙ append_assoc (flatten first) (else_part (flatten second)) (Close ∷ (flatten rest ++ ts)))
    ∙ ap (λ (b : List ℕ). l ++ b) (listed in_it (depth + 1) first (else_part (flatten second) ++ Close ∷ (flatten rest ++ ts))
    ∙ ap (λ (b : List ℕ). instrs_text in_it (depth + 1) first ++ b) (
    else_listed else_at depth second (Close ∷ (flatten rest ++ ts)) (listed (else_at + 1) (depth + 1) second (Close ∷ (flatten rest ++ ts)))
    ∙ ap (λ (b : List ℕ). other ++ b) (at_end end_at depth (flatten rest ++ ts)
    ∙ ap (λ (b : List ℕ). l2 ++ b)
    (listed (end_at + 1) depth rest ts ∙ ap (λ (b : List ℕ). instrs_text (end_at + 1) depth rest ++ b) (from_place depth ts e)))))
    ∙ sym (regroup_more l (instrs_text in_it (depth + 1) first) other l2 (instrs_text (end_at + 1) depth rest) (toks_text whole depth ts))

-- the tokens of an expression
pub listed_text : (at : ℕ) (t : Instrs) (ts : List Tok) → ts ≡ tokens_of t → toks_text at 0 ts ≡ expr_text at t
listed_text at t ts e = ap (λ (us : List Tok). toks_text at 0 us) e ∙ (listed at 0 t (Close ∷ []) ∙ ap (λ (b : List ℕ). instrs_text at 0 t ++ b) (append-nil _))

toks_length-append : (xs ys : List Tok) → toks_length (xs ++ ys) ≡ toks_length xs + toks_length ys
toks_length-append [] ys = omega arith
toks_length-append (x ∷ xs) ys = omega (arith, toks_length-append xs ys)

else_flat : (s : Instrs) → toks_length (flatten s) ≡ length (enc s) → toks_length (else_part (flatten s)) ≡ length (else_bytes s (enc s))
else_flat Finish h = refl
else_flat (One p rest) h = omega (arith, h)
else_flat (Block kind ty inside rest) h = omega (arith, h)
else_flat (If ty first second rest) h = omega (arith, h)

length_flat : (t : Instrs) → toks_length (flatten t) ≡ length (enc t)
length_flat Finish = refl
length_flat (One p rest) = omega (arith, length_flat rest, length-append (plain_bytes p) (enc rest))
length_flat (Block kind ty inside rest) =
    omega (
      arith,
      length_flat inside,
      length_flat rest,
      toks_length-append (flatten inside) (Close ∷ flatten rest),
      length_block (kind_byte kind) (type_bytes ty) (enc inside) (enc rest),
    )
length_flat (If ty first second rest) =
    omega (
      arith,
      length_flat first,
      else_flat second (length_flat second),
      length_flat rest,
      toks_length-append (flatten first ++ else_part (flatten second)) (Close ∷ flatten rest),
      toks_length-append (flatten first) (else_part (flatten second)),
      length_if 0x04 (type_bytes ty) (enc first) (else_bytes second (enc second)) (enc rest),
    )

-- an expression's bytes, its end among them
pub length_tokens : (t : Instrs) (ts : List Tok) → ts ≡ tokens_of t → toks_length ts ≡ length (written_expr t)
length_tokens t ts e = ap toks_length e ∙ omega (arith, toks_length-append (flatten t) (Close ∷ []), length_flat t, length-append (enc t) (0x0B ∷ []))

-- each token has a byte
pub some_token : (t : Tok) → 0 < length (tok_bytes t)
some_token (Simple p) = omega arith
some_token (Open kind ty skip) = omega arith
some_token (OpenIf ty skip) = omega arith
some_token (Otherwise skip) = omega arith
some_token Close = omega arith
