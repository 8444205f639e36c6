-- What is written of a tree is what is written of its tokens, one after the other.
use Rattle.std.proofs.Common.{◌≡◌, ℕ, suc, List, [], ◌∷◌, ◌++◌, length, refl, sym, ap, ◌∙◌, append_assoc}
use Rattle.std.proofs.lemmas.List.{append-nil}
use Rattle.std.specs.List.{flat_map}
use Rattle.std.proofs.lemmas.List.Concat.{flat_map-cons}
use Rattle.std.proofs.lemmas.Grind.{flat_map-append}
use Rattle.wk_body.specs.Tree.{Instrs, Finish, One, Block, If, Simple, Open, OpenIf, Otherwise, Close, else_part, flatten, tokens_of}
use Rattle.wk_body.specs.Spelling.{kind_byte}
use Rattle.wk_body.specs.Written.{plain_bytes, type_bytes, else_bytes, enc, tok_bytes, written_expr, StaysInFront}

else_flat : (second : Instrs) → flat_map tok_bytes (else_part (flatten second)) ≡ else_bytes second (flat_map tok_bytes (flatten second))
else_flat Finish = refl
else_flat (One p rest) = flat_map-cons tok_bytes (Otherwise (suc (length (flatten rest)))) (flatten (One p rest))
else_flat (Block kind ty inside rest) = flat_map-cons tok_bytes (Otherwise (length (flatten (Block kind ty inside rest)))) (flatten (Block kind ty inside rest))
else_flat (If ty first second rest) = flat_map-cons tok_bytes (Otherwise (length (flatten (If ty first second rest)))) (flatten (If ty first second rest))

pub enc_flat : (t : Instrs) → flat_map tok_bytes (flatten t) ≡ enc t
enc_flat Finish = refl
enc_flat (One p rest) = flat_map-cons tok_bytes (Simple p) (flatten rest) ∙ ap (λ (b : List ℕ). plain_bytes p ++ b) (enc_flat rest)
enc_flat (Block kind ty inside rest) =
    flat_map-cons tok_bytes (Open kind ty (length (flatten inside))) (flatten inside ++ Close ∷ flatten rest)
    ∙ ap (λ (b : List ℕ). kind_byte kind ∷ (type_bytes ty ++ b)) (flat_map-append tok_bytes (flatten inside) (Close ∷ flatten rest)
    ∙ rw (enc_flat inside, flat_map-cons tok_bytes Close (flatten rest), enc_flat rest) refl)
enc_flat (If ty first second rest) =
    let inside = flatten first ++ else_part (flatten second) in
    flat_map-cons tok_bytes (OpenIf ty (length inside)) (inside ++ Close ∷ flatten rest)
    ∙ ap (λ (b : List ℕ). 0x04 ∷ (type_bytes ty ++ b)) (flat_map-append tok_bytes inside (Close ∷ flatten rest)
    ∙ rw (
      flat_map-append tok_bytes (flatten first) (else_part (flatten second)),
      else_flat second,
      enc_flat first,
      enc_flat second,
      flat_map-cons tok_bytes Close (flatten rest),
      enc_flat rest,
    ) (append_assoc (enc first) (else_bytes second (enc second)) (0x0B ∷ enc rest)))

-- the tokens of an expression are written as it is
pub tokens_written : (t : Instrs) → flat_map tok_bytes (tokens_of t) ≡ written_expr t
tokens_written t = flat_map-append tok_bytes (flatten t) (Close ∷ []) ∙ ap (λ (b : List ℕ). b ++ 0x0B ∷ []) (enc_flat t)

-- ---- what stands in front

pub front_then : (a b c : List ℕ) → StaysInFront a b → StaysInFront b c → StaysInFront a c
front_then a b c first second = (first.0 ++ second.0, second.1 ∙ ap (λ (r : List ℕ). r ++ second.0) first.1 ∙ append_assoc a first.0 second.0)

pub front_same : (a b : List ℕ) → b ≡ a → StaysInFront a b
front_same a b same = ([], same ∙ sym (append-nil a))
