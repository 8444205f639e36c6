-- The text of a token that a place names.
use Rattle.std.specs.Prelude.{◌≡◌, ℕ, List, Option, Some, None}
use Rattle.wk_bytes.specs.Span.{Span}
use Rattle.wk_body.specs.declared.types.Profile.{Profile}
use Rattle.wk_body.specs.Tree.{Tok}
use Rattle.wk_list.specs.TokenText.{tok_text}
use Rattle.wk_module.specs.Sections.{SectionId, number}
use Rattle.wk_typing.specs.declared.fault.Place.{Place}
use Rattle.wk_place.specs.Places.{HoldsInstrs, IsItemAt, IsTokenAt}

-- The place names a token of an item, and this is the token.
pub record IsTokenOf (profile : Profile) (b : List ℕ) (p : Place) (t : Tok) : Type 0 where
  pub id : SectionId
  pub is : p.section ≡ number id
  pub token : ℕ
  pub named : p.token ≡ Some token
  pub item : Span
  pub reached : IsItemAt profile b id p.item item
  pub code : Span
  pub holds : HoldsInstrs id item code
  pub place : Span
  pub there : IsTokenAt profile code token t place

-- The text of the token, as the code listing has it; or nothing, since the place names no token that the bytes have.
abbrev pub IsTokenText : Profile → List ℕ → Place → Option (List ℕ) → Type 0
IsTokenText profile b p None = (t : Tok) → IsTokenOf profile b p t → ⊥
IsTokenText profile b p (Some text) = (t : Tok) × IsTokenOf profile b p t × (text ≡ tok_text t)
