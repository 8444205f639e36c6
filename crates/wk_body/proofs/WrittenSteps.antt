-- What a token adds to what is written: its own bytes, but for an else whose branch is empty.
use Rattle.std.proofs.Common.{◌≡◌, ◌≢◌, ℕ, Bool, true, false, List, [], ◌∷◌, ◌++◌, length, Some, refl, ap, ◌∙◌, arith, append_assoc}
use Rattle.wk_body.specs.declared.types.BlockType.{BlockType}
use Rattle.wk_body.specs.declared.types.BlockKind.{BlockKind}
use Rattle.wk_body.specs.Instructions.{Plain}
use Rattle.wk_body.specs.Tree.{Instrs, Finish, One, Block, If, Tok, Simple, Open, OpenIf, Otherwise, Close, Part, before}
use Rattle.wk_body.specs.Spelling.{kind_byte}
use Rattle.wk_body.specs.Written.{plain_bytes, type_bytes, else_bytes, enc, tok_bytes}
use Rattle.wk_body.specs.Reading.{after}
use Rattle.wk_body.specs.ToWrite.{to_write, IsNoElse, Parted}

simple_step : (p : Plain) (ks : List Bool) (x : Part) (xs : List Part) → to_write ks (before (Simple p) (x ∷ xs)) ≡ plain_bytes p ++ to_write ks (x ∷ xs)
simple_step p [] x xs = append_assoc (plain_bytes p) (enc x.rest) (0x0B ∷ [])
simple_step p (true ∷ ks) x xs = append_assoc (plain_bytes p) (enc x.rest) (else_bytes x.other (enc x.other) ++ 0x0B ∷ to_write ks xs)
simple_step p (false ∷ ks) x xs = append_assoc (plain_bytes p) (enc x.rest) (0x0B ∷ to_write ks xs)

block_step : (kind : BlockKind) (ty : BlockType) (skip : ℕ) (ks : List Bool) (x y : Part) (ys : List Part)
    → to_write ks (before (Open kind ty skip) (x ∷ y ∷ ys)) ≡ (kind_byte kind ∷ type_bytes ty) ++ to_write (false ∷ ks) (x ∷ y ∷ ys)
block_step kind ty skip [] x y ys = simp append_assoc
block_step kind ty skip (true ∷ ks) x y ys = simp append_assoc
block_step kind ty skip (false ∷ ks) x y ys = simp append_assoc

if_step : (ty : BlockType) (skip : ℕ) (ks : List Bool) (x y : Part) (ys : List Part)
    → to_write ks (before (OpenIf ty skip) (x ∷ y ∷ ys)) ≡ (0x04 ∷ type_bytes ty) ++ to_write (true ∷ ks) (x ∷ y ∷ ys)
if_step ty skip [] x y ys = simp append_assoc
if_step ty skip (true ∷ ks) x y ys = simp append_assoc
if_step ty skip (false ∷ ks) x y ys = simp append_assoc

close_step : (k : Bool) (ks : List Bool) (xs : List Part) → to_write (k ∷ ks) (before Close xs) ≡ (0x0B ∷ []) ++ to_write ks xs
close_step true ks xs = refl
close_step false ks xs = refl

pub token_step : (t : Tok) (ks next : List Bool) (xs : List Part) → IsNoElse t → after t ks ≡ Some next → Parted next xs
    → to_write ks (before t xs) ≡ tok_bytes t ++ to_write next xs
token_step t ks next [] that h parted = absurd (omega (arith, parted))
token_step (Simple p) ks next (x ∷ xs) that h parted =
    let same : ks ≡ next = cc in
    simple_step p ks x xs ∙ ap (λ (n : List Bool). plain_bytes p ++ to_write n (x ∷ xs)) same
token_step (Open kind ty skip) ks next (x ∷ []) that h parted =
    let same : false ∷ ks ≡ next = cc in
    absurd (omega (arith, parted, ap length same))
token_step (Open kind ty skip) ks next (x ∷ y ∷ ys) that h parted =
    let same : false ∷ ks ≡ next = cc in
    block_step kind ty skip ks x y ys ∙ ap (λ (n : List Bool). (kind_byte kind ∷ type_bytes ty) ++ to_write n (x ∷ y ∷ ys)) same
token_step (OpenIf ty skip) ks next (x ∷ []) that h parted =
    let same : true ∷ ks ≡ next = cc in
    absurd (omega (arith, parted, ap length same))
token_step (OpenIf ty skip) ks next (x ∷ y ∷ ys) that h parted =
    let same : true ∷ ks ≡ next = cc in
    if_step ty skip ks x y ys ∙ ap (λ (n : List Bool). (0x04 ∷ type_bytes ty) ++ to_write n (x ∷ y ∷ ys)) same
token_step (Otherwise skip) ks next (x ∷ xs) that h parted = absurd that
token_step Close [] next (x ∷ xs) that h parted = absurd cc
token_step Close (k ∷ ks) next (x ∷ xs) that h parted =
    let same : ks ≡ next = cc in
    close_step k ks (x ∷ xs) ∙ ap (λ (n : List Bool). (0x0B ∷ []) ++ to_write n (x ∷ xs)) same

-- an else branch that holds something
some_else : (t : Instrs) (r : List ℕ) → t ≢ Finish → else_bytes t (enc t) ++ r ≡ 0x05 ∷ (enc t ++ r)
some_else Finish r not = absurd (not refl)
some_else (One p rest) r not = refl
some_else (Block kind ty inside rest) r not = refl
some_else (If ty first second rest) r not = refl

no_else : (t : Instrs) (r : List ℕ) → t ≡ Finish → else_bytes t (enc t) ++ r ≡ enc t ++ r
no_else t r e = rw e refl

pub else_step : (skip : ℕ) (ks : List Bool) (x : Part) (xs : List Part) → x.rest ≢ Finish
    → to_write (true ∷ ks) (before (Otherwise skip) (x ∷ xs)) ≡ 0x05 ∷ to_write (false ∷ ks) (x ∷ xs)
else_step skip ks x xs not = some_else x.rest (0x0B ∷ to_write ks xs) not

pub else_gone : (skip : ℕ) (ks : List Bool) (x : Part) (xs : List Part) → x.rest ≡ Finish
    → to_write (true ∷ ks) (before (Otherwise skip) (x ∷ xs)) ≡ to_write (false ∷ ks) (x ∷ xs)
else_gone skip ks x xs e = no_else x.rest (0x0B ∷ to_write ks xs) e
