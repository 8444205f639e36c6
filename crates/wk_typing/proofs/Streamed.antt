-- A body that is typed while it is read.
use Rattle.std.proofs.Common.{◌≡◌, ℕ, suc, ◌<◌, Bool, List, [], length, Option, Ok, refl, ◌∙◌}
use Rattle.wk_bytes.specs.Span.{Span}
use Rattle.wk_body.specs.declared.token.Token.{Token}
use Rattle.wk_body.specs.declared.types.BlockType.{BlockType}
use Rattle.wk_body.specs.declared.types.BlockType.TheVariants.{Index}
use Rattle.wk_body.specs.declared.types.LocalGroup.{LocalGroup}
use Rattle.wk_body.specs.declared.types.Profile.{Profile}
use Rattle.wk_body.specs.declared.types.ValType.{ValType}
use Rattle.wk_body.specs.declared.references.Ref.{Ref}
use Rattle.wk_body.specs.Kept.{told}
use Rattle.wk_body.specs.Reading.{With, token_at, parts_at, expr_at}
use Rattle.wk_body.specs.TokenReading.{TokenReading, NextToken, local_groups_at}
use Rattle.wk_body.specs.TokenReadingLaws.{token_is_shorter, token_read, last_read, expr_read, body_read}
use Rattle.wk_body.specs.Tree.{Instrs, Close, before, first_part}
use Rattle.wk_typing.specs.declared.step.Function.{Function}
use Rattle.wk_typing.specs.Answers.{Found}
use Rattle.wk_typing.specs.Effects.{known, params_of, results_of, local_type}
use Rattle.wk_typing.specs.Levels.{Blocks, step}
use Rattle.wk_typing.specs.Moves.{body_of}
use Rattle.wk_typing.specs.Own.{ended}
use Rattle.wk_typing.specs.Streaming.{IsTaken, IsTyped, IsValidBody}
use Rattle.wk_typing.specs.Typing.{code_result}
use Rattle.wk_typing.proofs.Completing.{Completes, Matches, step_matches, step_back, end_back, begins_matches, begins_back}

module _ (A : Ref → Found) (f : Function) (profile : Profile) where
  abbrev locals : ℕ → Option ValType
  locals = local_type f.locals.params f.locals.groups

  abbrev final : List ValType
  final = f.results.now

  -- the instructions from a place up to these bytes are typed without a fault
  abbrev pub TypedUpTo : Span → List ℕ → Type 0
  TypedUpTo from rest = (is : Instrs) × (expr_at profile from.end from.rest ≡ Ok (is, rest)) × (code_result A locals final is ≡ Ok tt)

  -- Of the instructions at the place `from`, those in front of the place `at` were typed: where those that are left spell what the
  -- open blocks still want, and it has no fault, all of them are typed without one.
  pub record Underway (from at : Span) (kinds : List Bool) (b : Blocks) : Type 0 where
    pub matches : Matches A locals final kinds b.inner b.outer
    pub same_end : at.end ≡ from.end
    pub back : (x : With) → parts_at profile (suc (length at.rest)) kinds at.end at.rest ≡ Ok x → Completes A locals final x.0 b.inner b.outer
        → TypedUpTo from x.1

  pub starts : (from : Span) (kinds : List Bool) (bt : BlockType) (b : Blocks) → final ≡ results_of A bt → kinds ≡ [] → b ≡ body_of bt
      → Underway from from kinds b
  starts from kinds bt b is none begun = rw (none, begun) (record {
    matches = begins_matches A locals final bt;
    same_end = refl;
    back = λ x read left. (first_part x.0, expr_read profile from.end from.rest x read, begins_back A locals final bt is x.0 left);
  })

  pub goes_on : (from at to : Span) (old new : TokenReading) (token : Token) (b next : Blocks) → NextToken profile old new at to token
      → step A locals final (told new.labels token) b ≡ Ok next → Underway from at old.kinds b → Underway from to new.kinds next
  goes_on from at to old new token b next n typed u = record {
    matches = step_matches A locals final old.kinds new.kinds (told new.labels token) b next u.matches n.kinds n.stands typed;
    same_end = n.same_end ∙ u.same_end;
    back = λ x read left. u.back (before (told new.labels token) x.0, x.1) (token_read profile old new at to token n x read)
        (step_back A locals final old.kinds new.kinds (told new.labels token) b next u.matches n.kinds n.stands typed x.0 left);
  }

  pub moves_on : (from at here to : Span) (old new : TokenReading) (b c next : Blocks) → here ≡ at → c ≡ b → IsTaken A f profile old new here to c next
      → Underway from at old.kinds b → Underway from to new.kinds next
  moves_on from at here to old new b c next same left t u = rw (same, left) at
      (λ (v : Underway from here old.kinds c). goes_on from here to old new t.token c next t.read t.typed v) u

  pub shortens : (at here to : Span) (old new : TokenReading) (b next : Blocks) → here ≡ at → IsTaken A f profile old new here to b next
      → length to.rest < length at.rest
  shortens at here to old new b next same t = rw same at (token_is_shorter profile old new here to t.token t.read)

  pub ends : (from at to : Span) (kinds : List Bool) (b : Blocks) → token_at profile kinds at.end at.rest ≡ Ok (Close, to.rest) → kinds ≡ []
      → to.end ≡ at.end → ended final b.inner.own ≡ Ok tt → Underway from at kinds b → IsTyped A locals final profile from to
  ends from at to kinds b last none same no_fault u =
      let read : parts_at profile (suc (length at.rest)) kinds at.end at.rest ≡ Ok (before Close [], to.rest) =
      rw none (last_read profile at.end at.rest to.rest (rw none at last)) in
      let typed = u.back (before Close [], to.rest) read (end_back A locals final b.inner b.outer (rw none at u.matches) no_fault) in
      record { instrs = typed.0; read = typed.1; same_end = same ∙ u.same_end; no_fault = typed.2 }

-- groups and instructions that take all of the bytes
pub valid_body : (A : Ref → Found) (own : ℕ) (profile : Profile) (from mid to : Span) (groups : List LocalGroup) → known A (Index own) ≡ Ok tt
    → local_groups_at from.end from.rest ≡ Ok (groups, mid.rest) → mid.end ≡ from.end
    → IsTyped A (local_type (params_of A (Index own)) groups) (results_of A (Index own)) profile mid to → to.rest ≡ [] → IsValidBody A own profile from
valid_body A own profile from mid to groups is_known grouped same t none =
    record {
      body = record { groups = groups; instrs = t.instrs };
      read = body_read profile from.end from.rest mid.rest groups t.instrs grouped (rw (same, none) at t.read);
      valid = rw (is_known, t.no_fault) refl;
    }
