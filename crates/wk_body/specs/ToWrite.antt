-- What is still to be written behind a place of an expression, where these blocks are open (of each whether an else may still come,
-- the innermost first) and these parts stand behind the place.
use Rattle.std.specs.Prelude.{◌≡◌, ℕ, suc, List, [], ◌∷◌, ◌++◌, length, Bool, true, false}
use Rattle.wk_body.specs.Tree.{Tok, Otherwise, Part}
use Rattle.wk_body.specs.Written.{enc, else_bytes}

abbrev pub to_write : List Bool → List Part → List ℕ
to_write ks [] = []
to_write [] (x ∷ xs) = enc x.rest ++ 0x0B ∷ []
to_write (true ∷ ks) (x ∷ xs) = enc x.rest ++ (else_bytes x.other (enc x.other) ++ 0x0B ∷ to_write ks xs)
to_write (false ∷ ks) (x ∷ xs) = enc x.rest ++ 0x0B ∷ to_write ks xs

-- no else
abbrev pub IsNoElse : Tok → Type 0
IsNoElse (Otherwise skip) = ⊥
IsNoElse t = Unit {0}

-- as many parts as open blocks, and one
abbrev pub Parted : List Bool → List Part → Type 0
Parted ks xs = length xs ≡ suc (length ks)
