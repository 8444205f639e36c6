-- What a reader of tokens holds, and what the next token is. The reader keeps no token: a token's labels are those that it
-- holds, and no token leads to its end.
use Rattle.std.specs.Prelude.{◌≡◌, ℕ, List, [], Bool, Option, Some, None, length, Result, Ok}
use Rattle.wk_bytes.specs.declared.fault.ReadFault.{ReadFault}
use Rattle.wk_bytes.specs.Leb.{◌>>=◌}
use Rattle.wk_bytes.specs.Span.{Span, u32_at}
use Rattle.wk_body.specs.declared.types.Profile.{Profile}
use Rattle.wk_body.specs.declared.types.LocalGroup.{LocalGroup}
use Rattle.wk_body.specs.declared.token.Token.{Token}
use Rattle.wk_body.specs.Tree.{Tok, Otherwise, Close}
use Rattle.wk_body.specs.Kept.{told, IsWithin}
use Rattle.wk_body.specs.Reading.{token_at, after, groups_at}

-- of each open block, the innermost first, whether an else may still come; and the labels of the br_table read last
pub record TokenReading : Type 0 where
  pub kinds : List Bool
  pub labels : List ℕ

-- an else stands in an open block
abbrev pub MayStand : Tok → List Bool → Type 0
MayStand (Otherwise skip) [] = ⊥
MayStand t ks = Unit {0}

-- a token that was read from the cursor `from`, which leaves the cursor `to`
pub record NextToken (profile : Profile) (old new : TokenReading) (from to : Span) (token : Token) : Type 0 where
  pub read : token_at profile old.kinds from.end from.rest ≡ Ok (told new.labels token, to.rest)
  pub same_end : to.end ≡ from.end
  pub kinds : after (told new.labels token) old.kinds ≡ Some new.kinds
  pub within : IsWithin (length new.labels) token
  pub stands : MayStand (told new.labels token) old.kinds

-- a token, or none where the end was read that closes no block
abbrev pub NextRead : Profile → TokenReading → TokenReading → Span → Span → Option Token → Type 0
NextRead profile old new from to (Some token) = NextToken profile old new from to token
NextRead profile old new from to None = (token_at profile old.kinds from.end from.rest ≡ Ok (Close, to.rest)) × (old.kinds ≡ []) × (to.end ≡ from.end)

-- a count of local groups, and the groups
unfoldable pub local_groups_at : ℕ → List ℕ → Result (List LocalGroup × List ℕ) ReadFault
local_groups_at end bytes = do
  n ← u32_at end bytes
  groups_at n.0 0 end n.1
