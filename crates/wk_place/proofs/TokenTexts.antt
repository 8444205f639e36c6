-- A token that is spelled at the front is the one that is read there.
use Rattle.std.proofs.Common.{◌≡◌, ℕ, Bool, true, List, [], ◌∷◌, ◌++◌, Option, Some, Result, Ok, Err, refl, sym, ap, subst, ◌∙◌, arith}
use Rattle.wk_bytes.specs.declared.fault.ReadFault.{ReadFault}
use Rattle.wk_bytes.specs.Span.{Span}
use Rattle.wk_bytes.specs.SpanLaws.{ok_is}
use Rattle.wk_body.specs.declared.types.Profile.{Profile}
use Rattle.wk_body.specs.Reading.{token_at}
use Rattle.wk_body.specs.Tree.{Tok, Simple, Open, OpenIf, Otherwise, Close}
use Rattle.wk_body.proofs.GrammarTokens.{MayCome, SpellsTok, token_again}
use Rattle.wk_typing.specs.declared.fault.Place.{Place}
use Rattle.wk_place.specs.Places.{IsPlaceAt, IsWithin}
use Rattle.wk_place.specs.TokenTexts.{IsTokenOf}

-- any token may come where an if is open
pub may_if : (t : Tok) → MayCome (true ∷ []) t
may_if (Simple p) = tt
may_if (Open kind ty skip) = omega arith
may_if (OpenIf ty skip) = omega arith
may_if (Otherwise skip) = refl
may_if Close = tt

-- .. and any but an else where no block is open
pub may_none : (profile : Profile) (t : Tok) (front later : List ℕ) → SpellsTok profile t front → ((rest : List ℕ) → front ++ later ≡ 0x05 ∷ rest → ⊥)
    → MayCome [] t
may_none profile (Simple p) front later spelled other = tt
may_none profile (Open kind ty skip) front later spelled other = omega arith
may_none profile (OpenIf ty skip) front later spelled other = omega arith
may_none profile (Otherwise skip) front later spelled other = absurd (other later (ap (λ (b : List ℕ). b ++ later) spelled.1))
may_none profile Close front later spelled other = tt

module _ (profile : Profile) (ks : List Bool) (end : ℕ) (bytes : List ℕ) (t : Tok) (front later : List ℕ) (spelled : SpellsTok profile t front)
    (parts : bytes ≡ front ++ later) (may : MayCome ks t) where
  again : token_at profile ks end bytes ≡ Ok (t, later)
  again = ap (token_at profile ks end) parts ∙ token_again profile ks end t front later spelled may

  pub read_is : (u : Tok) (rest : List ℕ) → token_at profile ks end bytes ≡ Ok (u, rest) → u ≡ t
  read_is u rest is = ap (λ (x : Tok × List ℕ). x.0) (ok_is (u, rest) (t, later) (sym is ∙ again))

  failed : (r : Result (Tok × List ℕ) ReadFault) (e : ReadFault) → r ≡ Ok (t, later) → r ≡ Err e → ⊥
  failed (Ok x) e good bad = absurd cc
  failed (Err d) e good bad = absurd cc

  pub is_read : (e : ReadFault) → token_at profile ks end bytes ≡ Err e → ⊥
  is_read e bad = failed (token_at profile ks end bytes) e again bad

-- ---- the token of a place

abbrev pub found_as : Option Span → Result (Option Span) ReadFault
found_as o = Ok o

-- the token that a place names, and how it is spelled there
pub record IsThere (profile : Profile) (b : List ℕ) (p : Place) (rest : List ℕ) : Type 0 where
  pub token : Tok
  pub of : IsTokenOf profile b p token
  pub front : List ℕ
  pub later : List ℕ
  pub spelled : SpellsTok profile token front
  pub parts : rest ≡ front ++ later

pub token_there : (profile : Profile) (b : List ℕ) (p : Place) (n : ℕ) (place : Span) → p.token ≡ Some n → IsPlaceAt profile b p place
    → IsThere profile b p place.rest
token_there profile b p n place named h =
    let w = subst (λ (o : Option ℕ). IsWithin profile h.id o h.item place) named h.within in
    let at = w.3 in
    record {
      token = w.1;
      of = record {
        id = h.id;
        is = h.is;
        token = n;
        named = named;
        item = h.item;
        reached = h.reached;
        code = w.0;
        holds = w.2;
        place = place;
        there = at;
      };
      front = at.bytes;
      later = at.later;
      spelled = at.token;
      parts = at.here;
    }

pub place_of : (profile : Profile) (b : List ℕ) (p : Place) (t : Tok) (h : IsTokenOf profile b p t) → IsPlaceAt profile b p h.place
place_of profile b p t h = record {
  id = h.id;
  is = h.is;
  item = h.item;
  reached = h.reached;
  within = subst (λ (o : Option ℕ). IsWithin profile h.id o h.item h.place) (sym h.named) (h.code, t, h.holds, h.there);
}
