-- The references of kept tokens are those of their tree.
use Rattle.std.proofs.Common.{◌≡◌, ℕ, List, [], ◌∷◌, ◌++◌, refl, ap, ◌∙◌, append_assoc}
use Rattle.std.specs.List.{flat_map}
use Rattle.std.proofs.lemmas.List.{append-nil}
use Rattle.std.proofs.lemmas.List.Concat.{flat_map-append}
use Rattle.wk_body.specs.declared.references.Ref.{Ref}
use Rattle.wk_body.specs.declared.token.Token.{Token}
use Rattle.wk_body.specs.declared.token.Token.TheVariants as kept
use Rattle.wk_body.specs.Tree.{Instrs, Finish, One, Block, If, Tok, Close, else_part, flatten, tokens_of}
use Rattle.wk_body.specs.References.{plain_refs, type_refs, refs_of, tok_refs}
use Rattle.wk_body.specs.Kept.{told, all_told}

else_refs : (ts : List Tok) → flat_map tok_refs (else_part ts) ≡ flat_map tok_refs ts
else_refs [] = refl
else_refs (t ∷ ts) = refl

pub refs_flat : (t : Instrs) → flat_map tok_refs (flatten t) ≡ refs_of t
refs_flat Finish = refl
refs_flat (One p rest) = ap (λ (rs : List Ref). plain_refs p ++ rs) (refs_flat rest)
refs_flat (Block kind ty inside rest) =
    ap (λ (rs : List Ref). type_refs ty ++ rs) (flat_map-append tok_refs (flatten inside) (Close ∷ flatten rest) ∙ rw (refs_flat inside, refs_flat rest) refl)
refs_flat (If ty first second rest) =
    let inside = flatten first ++ else_part (flatten second) in
    ap (λ (rs : List Ref). type_refs ty ++ rs) (flat_map-append tok_refs inside (Close ∷ flatten rest)
    ∙ rw (
      flat_map-append tok_refs (flatten first) (else_part (flatten second)),
      else_refs (flatten second),
      refs_flat first,
      refs_flat second,
      refs_flat rest,
    ) (append_assoc (refs_of first) (refs_of second) (refs_of rest)))

-- the end that closes no block adds none
pub refs_tokens : (t : Instrs) → flat_map tok_refs (tokens_of t) ≡ refs_of t
refs_tokens t = flat_map-append tok_refs (flatten t) (Close ∷ []) ∙ append-nil (flat_map tok_refs (flatten t)) ∙ refs_flat t

-- the pool of labels has no part in the references
pub refs_pool : (pool : List ℕ) (t : Token) → tok_refs (told [] t) ≡ tok_refs (told pool t)
refs_pool pool (kept.BrTable start len other) = refl
refs_pool pool t = refl

pub all_refs_pool : (pool : List ℕ) (ts : List Token) → flat_map tok_refs (all_told [] ts) ≡ flat_map tok_refs (all_told pool ts)
all_refs_pool pool [] = refl
all_refs_pool pool (t ∷ ts) = rw (refs_pool pool t, all_refs_pool pool ts) refl

pub kept_refs : (pool : List ℕ) (ts : List Token) (t : Instrs) → all_told pool ts ≡ tokens_of t → flat_map tok_refs (all_told [] ts) ≡ refs_of t
kept_refs pool ts t e = all_refs_pool pool ts ∙ ap (flat_map tok_refs) e ∙ refs_tokens t
