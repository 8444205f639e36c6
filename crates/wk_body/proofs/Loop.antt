-- The loop over tokens, up to the end that closes no block.
use Rattle.std.proofs.Common.{◌≡◌, ℕ, zero, suc, ◌+◌, ◌<◌, ◌≤◌, Bool, true, false, List, [], length, Some, Result, Ok, Err, refl, sym, ap, subst, ◌∙◌, arith}
use Rattle.wk_bytes.specs.declared.fault.ReadFault.{ReadFault}
use Rattle.wk_bytes.specs.LebLaws.{IsBytes, IsBytes-before}
use Rattle.wk_bytes.specs.Span.{Span}
use Rattle.wk_body.specs.declared.types.Profile.{Profile}
use Rattle.wk_body.specs.declared.scratch.Scratch.{Scratch}
use Rattle.wk_body.specs.Tree.{Tok, Close, Part, over, before}
use Rattle.wk_body.specs.Kept.{IsKept, tree_kept}
use Rattle.wk_body.specs.Reads.{FailsAs}
use Rattle.wk_body.specs.Reading.{token_at, after, With, in_front, parts_at, expr_at}
use Rattle.wk_body.specs.Building.{Good, ReadsToken, toks_of, kinds_of, size_of}
use Rattle.wk_body.specs.ReadsLaws.{fails_on}
use Rattle.wk_body.proofs.GrammarParts.{expr_takes}
use Rattle.wk_body.proofs.Grammar.{changed, same_changed, changed-changed}
use Rattle.wk_body.proofs.Spelled.{expr_shaped}
use Rattle.wk_body.specs.TokenReadingLaws.{token_shorter}

-- Of what is read from the cursor `from`, the scratch holds what stands in front of the cursor `at`.
pub record Underway (profile : Profile) (from : Span) (now : Scratch) (at : Span) : Type 0 where
  pub good : Good now
  pub room : size_of now + length at.rest ≤ length from.rest
  pub same_end : at.end ≡ from.end
  pub steps : ℕ
  pub enough : length at.rest < steps
  pub reads : changed (over (toks_of now)) (parts_at profile steps (kinds_of now) from.end at.rest)
      ≡ parts_at profile (suc (length from.rest)) [] from.end from.rest

-- a token that is read at that cursor
abbrev pub Next : Profile → Bool → Scratch → Span → Scratch → Span → Type 0
Next profile last now at next to = ReadsToken (token_at profile (kinds_of now) at.end at.rest) last now next (length at.rest) at.end to

changed-same : (read : Result With ReadFault) → changed (λ xs. xs) read ≡ read
changed-same (Ok x) = refl
changed-same (Err e) = refl

pub begins : (profile : Profile) (b : Scratch) (from : Span) → Good b → toks_of b ≡ [] → kinds_of b ≡ [] → size_of b ≡ 0 → Underway profile from b from
begins profile b from good toks kinds size = record {
  good = good;
  room = omega (arith, size);
  same_end = refl;
  steps = suc (length from.rest);
  enough = omega arith;
  reads = rw (toks, kinds) (changed-same (parts_at profile (suc (length from.rest)) [] from.end from.rest));
}

pub one_more : (profile : Profile) (n end : ℕ) (ks next : List Bool) (rest behind : List ℕ) (t : Tok) → token_at profile ks end rest ≡ Ok (t, behind)
    → after t ks ≡ Some next → parts_at profile (suc n) ks end rest ≡ in_front t (parts_at profile n next end behind)
unfolding parts_at
one_more profile n end ks next rest behind t e h = rw (e, h) refl

one_fails : (profile : Profile) (n end : ℕ) (ks : List Bool) (rest : List ℕ) (f : ReadFault) → token_at profile ks end rest ≡ Err f
    → parts_at profile (suc n) ks end rest ≡ Err f
unfolding parts_at
one_fails profile n end ks rest f e = rw e refl

pub one_last : (profile : Profile) (n end : ℕ) (rest behind : List ℕ) → token_at profile [] end rest ≡ Ok (Close, behind)
    → parts_at profile (suc n) [] end rest ≡ Ok (before Close [], behind)
unfolding parts_at
one_last profile n end rest behind e = rw e refl

-- reading up to the same end
pub moved_end : (profile : Profile) (ks : List Bool) (rest : List ℕ) (end other : ℕ) (read : Result (Tok × List ℕ) ReadFault) → end ≡ other
    → token_at profile ks end rest ≡ read → token_at profile ks other rest ≡ read
moved_end profile ks rest end other read same e = subst (λ (end : ℕ). token_at profile ks end rest ≡ read) same e

more : (profile : Profile) (from : Span) (now next : Scratch) (at to : Span) → Next profile false now at next to → Underway profile from now at
    → (n : ℕ) → length at.rest < n → changed (over (toks_of now)) (parts_at profile n (kinds_of now) from.end at.rest)
    ≡ parts_at profile (suc (length from.rest)) [] from.end from.rest → Underway profile from next to
more profile from now next at to r u zero lt e = absurd (omega arith)
more profile from now next at to r u (suc n) lt e = record {
  good = r.stepped.good;
  room = omega (arith, r.stepped.size, u.room);
  same_end = r.same_end ∙ u.same_end;
  steps = n;
  enough = omega (arith, token_shorter profile (kinds_of now) at.end at.rest (r.token, to.rest) r.is);
  reads = same_changed (over (toks_of next)) (λ xs. over (toks_of now) (before r.token xs))
      (parts_at profile n (kinds_of next) from.end to.rest) r.stepped.parts
      ∙ sym (changed-changed (over (toks_of now)) (before r.token) (parts_at profile n (kinds_of next) from.end to.rest))
      ∙ ap (changed (over (toks_of now)))
      (sym (one_more profile n from.end (kinds_of now) (kinds_of next) at.rest to.rest r.token
      (moved_end profile (kinds_of now) at.rest at.end from.end (Ok (r.token, to.rest)) u.same_end r.is) r.stepped.kinds)) ∙ e;
}

failing : (profile : Profile) (from : Span) (now : Scratch) (at : Span) (f : ReadFault) → token_at profile (kinds_of now) from.end at.rest ≡ Err f
    → (n : ℕ) → length at.rest < n
    → changed (over (toks_of now)) (parts_at profile n (kinds_of now) from.end at.rest)
    ≡ parts_at profile (suc (length from.rest)) [] from.end from.rest → expr_at profile from.end from.rest ≡ Err f
unfolding expr_at
failing profile from now at f h zero lt e = absurd (omega arith)
failing profile from now at f h (suc n) lt e =
    let w : parts_at profile (suc (length from.rest)) [] from.end from.rest ≡ Err f =
    sym e ∙ ap (changed (over (toks_of now))) (one_fails profile n from.end (kinds_of now) at.rest f h) in
    rw w refl

ending : (profile : Profile) (from : Span) (now last : Scratch) (at to : Span) → Next profile true now at last to → at.end ≡ from.end → (n : ℕ)
    → length at.rest < n
    → changed (over (toks_of now)) (parts_at profile n (kinds_of now) from.end at.rest)
    ≡ parts_at profile (suc (length from.rest)) [] from.end from.rest
    → expr_at profile from.end from.rest ≡ Ok (tree_kept last.labels.items last.tokens.items, to.rest)
unfolding expr_at
ending profile from now last at to r same zero lt e = absurd (omega arith)
ending profile from now last at to r same (suc n) lt e =
    let end = r.stepped.0 in
    let here : token_at profile (kinds_of now) from.end at.rest ≡ Ok (r.token, to.rest) =
    moved_end profile (kinds_of now) at.rest at.end from.end (Ok (r.token, to.rest)) same r.is in
    let t : token_at profile [] from.end at.rest ≡ Ok (Close, to.rest) =
    ap (λ (ks : List Bool). token_at profile ks from.end at.rest) (sym end.none) ∙ here ∙ ap (λ (t : Tok). Ok (t, to.rest)) r.stepped.1 in
    let w : parts_at profile (suc n) (kinds_of now) from.end at.rest ≡ Ok (before Close [], to.rest) =
    ap (λ (ks : List Bool). parts_at profile (suc n) ks from.end at.rest) end.none ∙ one_last profile n from.end at.rest to.rest t in
    let v : parts_at profile (suc (length from.rest)) [] from.end from.rest ≡ Ok (over (toks_of last) [], to.rest) =
    sym e ∙ ap (changed (over (toks_of now))) w ∙ ap (λ (xs : List Part). Ok (xs, to.rest)) (sym end.parts) in
    rw v refl

pub goes_on : (profile : Profile) (from : Span) (now next : Scratch) (at to : Span) → Next profile false now at next to → Underway profile from now at
    → Underway profile from next to
goes_on profile from now next at to r u = more profile from now next at to r u u.steps u.enough u.reads

pub fails : (profile : Profile) (from : Span) (now : Scratch) (at : Span) (e : ReadFault)
    → FailsAs e e.kind (token_at profile (kinds_of now) at.end at.rest) → Underway profile from now at → FailsAs e e.kind (expr_at profile from.end from.rest)
fails profile from now at e h u =
    fails_on e e.kind (token_at profile (kinds_of now) at.end at.rest) (expr_at profile from.end from.rest)
    (λ f. failing profile from now at e (moved_end profile (kinds_of now) at.rest at.end from.end (Err e) u.same_end f) u.steps u.enough u.reads) h

pub ends : (profile : Profile) (from : Span) (now last : Scratch) (at to : Span) → Next profile true now at last to → Underway profile from now at
    → (expr_at profile from.end from.rest ≡ Ok (tree_kept last.labels.items last.tokens.items, to.rest)) × (to.end ≡ from.end)
ends profile from now last at to r u = (ending profile from now last at to r u.same_end u.steps u.enough u.reads, r.same_end ∙ u.same_end)

-- what was put together may be kept
pub keeps : (profile : Profile) (from : Span) (now last : Scratch) (at to : Span) → IsBytes from.rest → length from.rest ≤ 2147483647
    → Next profile true now at last to → Underway profile from now at → IsKept last.labels.items last.tokens.items
keeps profile from now last at to fits small r u =
    let end = r.stepped.0 in
    let tree = tree_kept last.labels.items last.tokens.items in
    let t = expr_takes profile from.end from.rest (tree, to.rest) fits (ends profile from now last at to r u).0 in
    record {
      written = end.written;
      within = end.within;
      few =
          omega (arith, end.size, u.room, token_shorter profile (kinds_of now) at.end at.rest (r.token, to.rest) r.is, small);
      shaped =
          expr_shaped profile tree t.front (IsBytes-before t.front to.rest from.rest t.parts fits) t.spelled;
    }

pub shorter : (profile : Profile) (now next : Scratch) (at to : Span) (last : Bool) → Next profile last now at next to → length to.rest < length at.rest
shorter profile now next at to last r = token_shorter profile (kinds_of now) at.end at.rest (r.token, to.rest) r.is
