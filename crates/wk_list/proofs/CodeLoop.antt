-- One line more of the code listing.
use Rattle.std.proofs.Common.{◌≡◌, ℕ, ◌+◌, List, ◌∷◌, ◌++◌, length, ap, sym, ◌∙◌, append_assoc, append-nil}
use Rattle.std.proofs.lemmas.List.{nil_from_length}
use Rattle.wk_body.specs.declared.token.Token.{Token}
use Rattle.wk_body.specs.Kept.{told, all_told}
use Rattle.wk_body.specs.Written.{tok_bytes}
use Rattle.wk_list.specs.CodeText.{code_line}
use Rattle.wk_list.specs.TokenText.{tok_text, stands_at, open_after, toks_text}

-- a token comes next, at a depth, and behind it others
pub token_next : (pool : List ℕ) (rest after : List Token) (t : Token) (at depth here behind n : ℕ) (text : List ℕ)
    → rest ≡ t ∷ after → here ≡ stands_at depth (told pool t) → behind ≡ open_after depth (told pool t) → n ≡ length (tok_bytes (told pool t))
    → text ++ toks_text at depth (all_told pool rest) ≡ (text ++ code_line at here (tok_text (told pool t))) ++ toks_text (at + n) behind (all_told pool after)
token_next pool rest after t at depth here behind n text e stands next len =
    rw (stands, next, len) (ap (λ (r : List Token). text ++ toks_text at depth (all_told pool r)) e
    ∙ sym (append_assoc text (code_line at (stands_at depth (told pool t)) (tok_text (told pool t))) _))

-- no token is left
pub tokens_end : (pool : List ℕ) (rest : List Token) (at depth : ℕ) (text : List ℕ) → length rest ≡ 0 → text ++ toks_text at depth (all_told pool rest) ≡ text
tokens_end pool rest at depth text e = ap (λ (r : List Token). text ++ toks_text at depth (all_told pool r)) (nil_from_length rest e) ∙ append-nil text
