-- Names to keep.
use Rattle.std.proofs.Common.{◌≡◌, ◌==◌, ℕ, false, List, [], ◌∷◌, length, Some, None, refl, ap, ◌∙◌}
use Rattle.std.specs.Str.{IsUtf8}
use Rattle.std.proofs.lemmas.Str.{is_utf8-from_IsUtf8}
use Rattle.wk_bytes.specs.PieceLaws.{not_utf8}
use Rattle.wk_ffi.specs.Asked.{keep_of}

keep_is : (name : List ℕ) → false ≡ (length name == 0) → IsUtf8 name → Some (Some name) ≡ keep_of name
keep_is [] some utf8 = absurd cc
keep_is (x ∷ xs) some utf8 = rw (is_utf8-from_IsUtf8 (x ∷ xs) utf8) refl

pub kept : (text name : List ℕ) → text ≡ name → false ≡ (length name == 0) → IsUtf8 name → Some (Some text) ≡ keep_of name
kept text name e some utf8 = ap (λ (n : List ℕ). Some (Some n)) e ∙ keep_is name some utf8

pub not_kept : (name : List ℕ) → false ≡ (length name == 0) → ¬ (IsUtf8 name) → None ≡ keep_of name
not_kept [] some bad = absurd cc
not_kept (x ∷ xs) some bad = rw (not_utf8 (x ∷ xs) bad) refl
