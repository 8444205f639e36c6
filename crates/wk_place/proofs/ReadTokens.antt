-- A token that is read at an offset is spelled there, and the other way round.
use Rattle.std.proofs.Common.{◌≡◌, ℕ, ◌-◌, false, List, [], ◌++◌, length, take, drop, Some, None, Ok, Err, sym, ap, subst, ◌∙◌, arith}
use Rattle.std.proofs.lemmas.Bool.{false≢true}
use Rattle.std.proofs.lemmas.List.{take-append-drop, length-drop}
use Rattle.std.proofs.Math.Seq.{take-length}
use Rattle.wk_bytes.specs.declared.fault.ReadFault.{ReadFault}
use Rattle.wk_bytes.specs.LebLaws.{IsBytes, IsBytes-after}
use Rattle.wk_bytes.specs.Span.{Span}
use Rattle.wk_bytes.specs.SpanLaws.{not_both}
use Rattle.wk_body.specs.declared.token.Token.{Token}
use Rattle.wk_body.specs.declared.token.Token.TheVariants.{End}
use Rattle.wk_body.specs.declared.types.Profile.{Profile}
use Rattle.wk_body.specs.Kept.{told}
use Rattle.wk_body.specs.Reading.{token_at}
use Rattle.wk_body.specs.TokenReading.{TokenReading, NextRead}
use Rattle.wk_body.specs.Tree.{Tok, Simple, Open, OpenIf, Otherwise, Close}
use Rattle.wk_body.proofs.GrammarTokens.{SpellsTok, MayCome, token_takes, token_again}
use Rattle.wk_place.specs.Places.{IsNoToken, IsTokenThere}
use Rattle.wk_place.specs.Seeking.{begins_with_else}

-- the bytes from an offset on, as a slice has them
pub from_there : (n : ℕ) (b : List ℕ) (end : ℕ) (s : Span) → s ≡ record { rest = take (length b - n) (drop n b); end = end } → s.rest ≡ drop n b
from_there n b end s is =
    ap (λ (t : Span). t.rest) is ∙ ap (λ (k : ℕ). take k (drop n b)) (sym (length-drop n b)) ∙ take-length (drop n b)

later_fits : (n : ℕ) (b : List ℕ) → IsBytes b → IsBytes (drop n b)
later_fits n b fits = IsBytes-after (take n b) (drop n b) b (sym (take-append-drop n b)) fits

module _ (profile : Profile) (b : List ℕ) (at : ℕ) (from : Span) (old new : TokenReading) (to : Span) where
  pub token_there : (token : Token) → IsBytes b → from.rest ≡ drop at b → NextRead profile old new from to (Some token)
      → IsTokenThere profile b at new.labels token
  token_there token fits is n =
      let t = token_takes profile old.kinds from.end from.rest (told new.labels token, to.rest) (subst IsBytes (sym is) (later_fits at b fits)) n.read in
      (t.0.front, to.rest, t.0.spelled, sym is ∙ t.0.parts, n.within)

  pub end_there : IsBytes b → from.rest ≡ drop at b → NextRead profile old new from to None → IsTokenThere profile b at new.labels End
  end_there fits is n =
      let t = token_takes profile old.kinds from.end from.rest (Close, to.rest) (subst IsBytes (sym is) (later_fits at b fits)) n.0 in
      (t.0.front, to.rest, t.0.spelled, sym is ∙ t.0.parts, tt)

-- a token that is no else may come where no block is open
may_come : (profile : Profile) (t : Tok) (own later : List ℕ) → SpellsTok profile t own → begins_with_else (own ++ later) ≡ false → MayCome [] t
may_come profile (Simple p) own later s none = tt
may_come profile (Open kind ty skip) own later s none = omega arith
may_come profile (OpenIf ty skip) own later s none = omega arith
may_come profile (Otherwise skip) own later s none =
    absurd (false≢true (sym none ∙ ap (λ (o : List ℕ). begins_with_else (o ++ later)) s.1))
may_come profile Close own later s none = tt

pub none_there : (profile : Profile) (b : List ℕ) (at : ℕ) (from : Span) (old : TokenReading) (labels : List ℕ) (e : ReadFault) → from.rest ≡ drop at b
    → begins_with_else from.rest ≡ false → old.kinds ≡ [] → token_at profile old.kinds from.end from.rest ≡ Err e → IsNoToken profile b at
none_there profile b at from old labels e is none empty bad = λ t own later s parts.
    let whole : from.rest ≡ own ++ later = is ∙ parts in
    let may = may_come profile t own later s (ap begins_with_else (sym whole) ∙ none) in
    let read : token_at profile old.kinds from.end from.rest ≡ Ok (t, later) =
    ap (λ ks. token_at profile ks from.end from.rest) empty ∙ ap (token_at profile [] from.end) whole
    ∙ token_again profile [] from.end t own later s may in
    not_both (token_at profile old.kinds from.end from.rest) e (t, later) bad read
