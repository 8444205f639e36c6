-- What the steps of a reader of tokens do. They are those of the code, one for each of its private functions; what its public
-- calls do is told without them, by `TokenReading`.
use Rattle.std.specs.Prelude.{◌≡◌, ℕ, List, [], ◌∷◌, Bool, true, Option, Some, None, length, Result, Ok}
use Rattle.wk_bytes.specs.declared.fault.ReadFault.{ReadFault}
use Rattle.wk_bytes.specs.Span.{Span}
use Rattle.wk_body.specs.declared.token.Token.{Token}
use Rattle.wk_body.specs.declared.token.Token.TheVariants as kept
use Rattle.wk_body.specs.Tree.{Tok, Close, Otherwise}
use Rattle.wk_body.specs.Kept.{told, IsWithin}
use Rattle.wk_body.specs.Reading.{after, may_else}
use Rattle.wk_body.specs.TokenReading.{TokenReading, MayStand}

-- a token that is what reading gives, of bytes that end there
pub record TokenIs (read : Result (Tok × List ℕ) ReadFault) (old new : TokenReading) (end : ℕ) (to : Span) (token : Token) : Type 0 where
  pub is : read ≡ Ok (told new.labels token, to.rest)
  pub same_end : to.end ≡ end
  pub kinds : after (told new.labels token) old.kinds ≡ Some new.kinds
  pub within : IsWithin (length new.labels) token
  pub stands : MayStand (told new.labels token) old.kinds

-- a token, or none at the end that closes no block
abbrev pub IsNext : Result (Tok × List ℕ) ReadFault → TokenReading → TokenReading → ℕ → Span → Option Token → Type 0
IsNext read old new end to (Some token) = TokenIs read old new end to token
IsNext read old new end to None = (read ≡ Ok (Close, to.rest)) × (old.kinds ≡ []) × (to.end ≡ end)

-- a block opens
abbrev pub Opens : Bool → TokenReading → TokenReading → Type 0
Opens is_if old new = new ≡ record { kinds = is_if ∷ old.kinds; labels = old.labels }

-- an end closes a block, or none
abbrev pub Closes : Option Token → TokenReading → TokenReading → Type 0
Closes (Some token) old new = (token ≡ kept.End) × (after Close old.kinds ≡ Some new.kinds) × (new.labels ≡ old.labels)
Closes None old new = old.kinds ≡ []

-- an else of the innermost block
pub record StartsElse (old new : TokenReading) (token : Token) : Type 0 where
  pub is : token ≡ kept.Else 0
  pub may : may_else old.kinds ≡ true
  pub kinds : after (Otherwise 0) old.kinds ≡ Some new.kinds
  pub stands : MayStand (Otherwise 0) old.kinds
