-- Tokens that are passed up to one of them, as a loop passes them.
use Rattle.std.proofs.Common.{◌≡◌, ℕ, zero, suc, ◌<◌, Bool, false, inl, inr, List, [], length, Option, Some, None, Result, Ok, Err, refl, sym, ap, ◌∙◌, arith}
use Rattle.std.proofs.lemmas.Bool.{ne_eqb}
use Rattle.wk_bytes.specs.declared.fault.ReadFault.{ReadFault}
use Rattle.wk_bytes.specs.Span.{Span}
use Rattle.wk_body.specs.declared.types.Profile.{Profile}
use Rattle.wk_body.specs.declared.token.Token.{Token}
use Rattle.wk_body.specs.Kept.{told}
use Rattle.wk_body.specs.Reading.{token_at, after}
use Rattle.wk_body.specs.TokenReading.{TokenReading, NextToken, NextRead}
use Rattle.wk_body.specs.TokenReadingLaws.{token_is_shorter}
use Rattle.wk_body.specs.Tree.{Tok, Close}
use Rattle.wk_place.specs.Seeking.{is_empty_else, IsNextLeft, rest_at, go_on, token_from, find_token_at}

abbrev pub Found : Type 0
Found = Result (Option Span) ReadFault

abbrev pub nothing : Found
nothing = Ok None

-- a token was read, whether or not it is the last
pub some_read : (profile : Profile) (old new : TokenReading) (from to : Span) (o : Option Token) → NextRead profile old new from to o
    → (t : Tok × List ℕ) × (token_at profile old.kinds from.end from.rest ≡ Ok t)
some_read profile old new from to (Some t) n = ((told new.labels t, to.rest), n.read)
some_read profile old new from to None n = ((Close, to.rest), n.0)

-- what is to be found from here on is what is to be found from the first token on
pub record OnWay (profile : Profile) (code : Span) (token : ℕ) (ks : List Bool) (left : ℕ) (at : Span) : Type 0 where
  pub steps : ℕ
  pub enough : length at.rest < steps
  pub so_far : token_from profile steps ks left at.end at.rest ≡ find_token_at profile token code.end code.rest

module _ (profile : Profile) (code : Span) (token : ℕ) where
  abbrev whole : Found
  whole = find_token_at profile token code.end code.rest

  pub begins : (ks : List Bool) (at : Span) → ks ≡ [] → at ≡ code → OnWay profile code token ks token at
  unfolding find_token_at
  begins ks at none is = record {
    steps = suc (length at.rest);
    enough = omega arith;
    so_far = rw (none, is) refl;
  }

  module _ (ks : List Bool) (left : ℕ) (at : Span) (way : OnWay profile code token ks left at) where
    -- a token that cannot be read
    fails_in : (steps : ℕ) (e : ReadFault) → length at.rest < steps → token_at profile ks at.end at.rest ≡ Err e
        → token_from profile steps ks left at.end at.rest ≡ Err e
    fails_in zero e enough bad = absurd (omega arith)
    fails_in (suc steps) e enough bad = rw bad refl

    pub fails : (e : ReadFault) → token_at profile ks at.end at.rest ≡ Err e → whole ≡ Err e
    fails e bad = sym way.so_far ∙ fails_in way.steps e way.enough bad

    -- the token is the one that is looked for
    here_in : (steps : ℕ) (t : Tok × List ℕ) → length at.rest < steps → token_at profile ks at.end at.rest ≡ Ok t → is_empty_else at.rest ≡ false
        → left ≡ 0 → token_from profile steps ks left at.end at.rest ≡ rest_at at.end at.rest
    here_in zero t enough read full none = absurd (omega arith)
    here_in (suc steps) t enough read full none = rw (read, full, none) refl

    pub here : (t : Tok × List ℕ) → token_at profile ks at.end at.rest ≡ Ok t → is_empty_else at.rest ≡ false → left ≡ 0 → whole ≡ Ok (Some at)
    here t read full none = sym way.so_far ∙ here_in way.steps t way.enough read full none

    -- the token is passed: how many are left to be counted
    unrolled : (steps : ℕ) (t : Tok × List ℕ) (next : ℕ) → token_at profile ks at.end at.rest ≡ Ok t → IsNextLeft at.rest left next
        → token_from profile (suc steps) ks left at.end at.rest ≡ go_on (after t.0 ks) (λ ls. token_from profile steps ls next at.end t.1)
    unrolled steps t next read (inl p) = rw (read, p.0, p.1) refl
    unrolled steps t next read (inr p) = rw (read, p.0, ne_eqb left 0 p.1, p.2) refl

    passes_in : (steps : ℕ) (old new : TokenReading) (to : Span) (t : Token) (next : ℕ) → old.kinds ≡ ks → length at.rest < steps
        → token_from profile steps ks left at.end at.rest ≡ whole → NextToken profile old new at to t → IsNextLeft at.rest left next
        → OnWay profile code token new.kinds next to
    passes_in zero old new to t next is enough so_far n counts = absurd (omega arith)
    passes_in (suc steps) old new to t next is enough so_far n counts =
        let read : token_at profile ks at.end at.rest ≡ Ok (told new.labels t, to.rest) =
        ap (λ (ls : List Bool). token_at profile ls at.end at.rest) (sym is) ∙ n.read in
        let opens : after (told new.labels t) ks ≡ Some new.kinds = ap (after (told new.labels t)) (sym is) ∙ n.kinds in
        let step = unrolled steps (told new.labels t, to.rest) next read counts in
        record {
          steps = steps;
          enough = omega (arith, token_is_shorter profile old new at to t n);
          so_far =
              ap (λ (end : ℕ). token_from profile steps new.kinds next end to.rest) n.same_end
              ∙ ap (λ (o : Option (List Bool)). go_on o (λ ls. token_from profile steps ls next at.end to.rest)) (sym opens) ∙ sym step ∙ so_far;
        }

    pub passes : (old new : TokenReading) (to : Span) (t : Token) (next : ℕ) → old.kinds ≡ ks → NextToken profile old new at to t
        → IsNextLeft at.rest left next → OnWay profile code token new.kinds next to
    passes old new to t next is n counts = passes_in way.steps old new to t next is way.enough way.so_far n counts

    -- the expression ends
    ends_in : (steps : ℕ) (rest : List ℕ) (next : ℕ) → length at.rest < steps → ks ≡ [] → token_at profile ks at.end at.rest ≡ Ok (Close, rest)
        → IsNextLeft at.rest left next → token_from profile steps ks left at.end at.rest ≡ nothing
    ends_in zero rest next enough none read counts = absurd (omega arith)
    ends_in (suc steps) rest next enough none read counts =
        unrolled steps (Close, rest) next read counts
        ∙ ap (λ (ls : List Bool). go_on (after Close ls) (λ more. token_from profile steps more next at.end rest)) none

    pub ends : (rest : List ℕ) (next : ℕ) → ks ≡ [] → token_at profile ks at.end at.rest ≡ Ok (Close, rest) → IsNextLeft at.rest left next
        → whole ≡ nothing
    ends rest next none read counts = sym way.so_far ∙ ends_in way.steps rest next way.enough none read counts
