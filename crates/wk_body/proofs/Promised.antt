-- What calls that read promise in terms of the grammar, from what they answer.
use Rattle.std.proofs.Common.{◌≡◌, ◌≢◌, ℕ, ◌≤◌, List, [], ◌∷◌, ◌++◌, length, leb, Result, Ok, Err, refl, sym, ap, subst, ◌∙◌, inl, inr, arith}
use Rattle.std.specs.Prelude.{IfOk, IfErr}
use Rattle.std.proofs.lemmas.List.{append-nil}
use Rattle.wk_bytes.specs.declared.fault.ReadKind.{ReadKind}
use Rattle.wk_bytes.specs.declared.fault.ReadKind.TheVariants.{BodySize, Memory}
use Rattle.wk_bytes.specs.declared.fault.ReadFault.{ReadFault}
use Rattle.wk_bytes.specs.Leb.{◌>>=◌}
use Rattle.wk_bytes.specs.Fault.{long_input}
use Rattle.wk_bytes.specs.LebLaws.{IsBytes, bind_ok, chosen}
use Rattle.wk_bytes.specs.Span.{Span, fault}
use Rattle.wk_bytes.specs.SpanLaws.{ok_is, err_is, not_both}
use Rattle.wk_bytes.specs.PieceLaws.{read_prefix_free}
use Rattle.wk_bytes.specs.Stands.{StandsAt, Stands, StandsOrMemory, StandsInCode, whole}
use Rattle.wk_bytes.specs.StandsLaws.{ReadsFront, StandsOrMemory-whole}
use Rattle.wk_body.specs.declared.types.Profile.{Profile}
use Rattle.wk_body.specs.Tree.{Instrs}
use Rattle.wk_body.specs.Shape.{IsOf}
use Rattle.wk_body.specs.declared.types.LocalGroup.{LocalGroup}
use Rattle.wk_body.specs.Bodies.{BodyOf}
use Rattle.wk_body.specs.Spelling.{SpellsExpr, SpellsGroups, SpellsBody}
use Rattle.wk_body.specs.Written.{Fits}
use Rattle.wk_body.specs.Reads.{FailsAs, Parses, Reads}
use Rattle.wk_body.specs.Meaning.{FindsOnly, Takes, TakesOnly, IsReadAs, IsAllReadAs, NeverMemory}
use Rattle.wk_body.specs.Reading.{expr_at, body_at, taking_all, all_expr_at, all_body_at, whole_at}
use Rattle.wk_body.specs.TokenReading.{local_groups_at}
use Rattle.wk_body.specs.ReadsLaws.{fails_on, other_fault}
use Rattle.wk_body.proofs.Pieces.{Took}
use Rattle.wk_body.proofs.GrammarParts.{expr_takes}
use Rattle.wk_body.proofs.Grammar.{expr_again, local_groups_take, local_groups_again, body_takes, body_again}
use Rattle.wk_body.proofs.Spelled.{expr_allowed}
use Rattle.wk_body.proofs.Standing.{ReadsFront-local_groups_at, ReadsFront-expr_at, ReadsFront-body_at, all_faults_of, all_expr_stands, all_body_stands}

-- ---- faults

stands_by : {Y : Type 0} (s : Span) (kind : ReadKind) (at : ℕ) (read : Result Y ReadFault)
    → (read ≡ Err (record { kind = kind; at = at }) → Stands s (record { kind = kind; at = at }))
    → FailsAs (record { kind = kind; at = at }) kind read → StandsOrMemory s (record { kind = kind; at = at })
stands_by s Memory at read stands f = inl (ap (λ (a : ℕ). record { kind = Memory; at = a }) f)
stands_by s _ at read stands f = inr (stands f)

-- a fault stands, or memory was wanted
stands_or : {Y : Type 0} (s : Span) (e : ReadFault) (read : Result Y ReadFault) → (read ≡ Err e → Stands s e) → FailsAs e e.kind read → StandsOrMemory s e
stands_or s e read stands f = stands_by s e.kind e.at read stands f

-- ---- of a reader that takes what the grammar spells, and whose faults stand

pub record Grammatical {V : Type 0} (Spells : V → List ℕ → Type 0) (read : ℕ → List ℕ → Result (V × List ℕ) ReadFault) : Type 0 where
  pub takes : (end : ℕ) (bytes : List ℕ) (x : V × List ℕ) → IsBytes bytes → read end bytes ≡ Ok x → Took Spells bytes x
  pub again : (end : ℕ) (v : V) (bytes rest : List ℕ) → Spells v bytes → read end (bytes ++ rest) ≡ Ok (v, rest)
  pub reads : ReadsFront read

pub exprs : (profile : Profile) → Grammatical (SpellsExpr profile) (expr_at profile)
exprs profile = record { takes = expr_takes profile; again = expr_again profile; reads = ReadsFront-expr_at profile }

local_groups : Grammatical SpellsGroups local_groups_at
local_groups = record { takes = local_groups_take; again = local_groups_again; reads = ReadsFront-local_groups_at }

pub bodies : (profile : Profile) → Grammatical (SpellsBody profile) (body_at profile)
bodies profile = record { takes = body_takes profile; again = body_again profile; reads = ReadsFront-body_at profile }

module _ {V : Type 0} (Spells : V → List ℕ → Type 0) (read : ℕ → List ℕ → Result (V × List ℕ) ReadFault) (is : Grammatical Spells read) where
  -- the front that was taken, and no other
  pub takes_only : {X : Type 0} (view : X → V) (old new : Span) (result : Result X ReadFault) → IsBytes old.rest → Takes view read old result new
      → TakesOnly view Spells old result new
  takes_only view old new (Ok x) fits given =
      let t = is.takes old.end old.rest (view x, new.rest) fits given.0 in (
        t.front,
        t.spelled,
        t.parts,
        λ w c later s parts.
            let one = read_prefix_free (λ b v. Spells v b) read (λ end b v rest p. is.again end v b rest p) c t.front later new.rest w
            (view x) s t.spelled (sym parts ∙ t.parts) in
            (one.1, one.0),
      )
  takes_only view old new (Err e) fits given = λ other w c later s parts.
      not_both (read old.end old.rest) e (w, later) (other_fault e e.kind _ other given.0) (ap (read old.end) parts ∙ is.again old.end w c later s)

  pub takes_stand : {X : Type 0} (view : X → V) (old new : Span) (result : Result X ReadFault) → length old.rest ≤ old.end
      → Takes view read old result new → IfErr result (λ e. StandsOrMemory old e)
  takes_stand view old new (Ok x) fits given = tt
  takes_stand view old new (Err e) fits given = stands_or old e _ (λ h. is.reads.faults old.end old.rest e h fits) given.0

  -- all of the bytes are taken
  abbrev all_at : ℕ → List ℕ → Result V ReadFault
  all_at end bytes = read end bytes >>= taking_all end

  all_of : (end : ℕ) (v w : V) (rest : List ℕ) → taking_all end (v, rest) ≡ Ok w → (rest ≡ []) × (v ≡ w)
  all_of end v w [] e = (refl, ok_is v w e)
  all_of end v w (y ∷ rest) e = absurd cc

  all_takes : (end : ℕ) (bytes : List ℕ) (v : V) → IsBytes bytes → all_at end bytes ≡ Ok v → Spells v bytes
  all_takes end bytes v fits e =
      let a = bind_ok (read end bytes) (taking_all end) v e in
      let all = all_of end a.0.0 v a.0.1 a.2 in
      let t = is.takes end bytes a.0 fits a.1 in
      let same : t.front ≡ bytes = sym (t.parts ∙ ap (λ (b : List ℕ). t.front ++ b) all.0 ∙ append-nil t.front) in
      subst (λ (w : V). Spells w bytes) all.1 (subst (Spells a.0.0) same t.spelled)

  all_again : (end : ℕ) (bytes : List ℕ) (v : V) → Spells v bytes → all_at end bytes ≡ Ok v
  all_again end bytes v s =
      let e : read end bytes ≡ Ok (v, []) = ap (read end) (sym (append-nil bytes)) ∙ is.again end v bytes [] s in
      ap (λ (r : Result (V × List ℕ) ReadFault). r >>= taking_all end) e

  all_read : IsAllReadAs Spells all_at
  all_read = record {
    takes = all_takes;
    again = λ end v bytes s. all_again end bytes v s;
    stands =
        λ end bytes e h fits. all_faults_of read is.reads end bytes e (read end bytes) refl h fits;
  }

  -- the bytes spell what was found, and no other
  pub finds_only : {X : Type 0} (view : X → V) (end : ℕ) (bytes : List ℕ) (result : Result X ReadFault) → IsBytes bytes → Fits bytes
      → Reads view result (all_at end bytes) → FindsOnly view Spells bytes result
  finds_only view end bytes (Ok x) fits few given =
      ((few, all_takes end bytes (view x) fits given), λ w s. ok_is w (view x) (sym (all_again end bytes w s.1) ∙ given))
  finds_only view end bytes (Err e) fits few given = λ other w s. not_both (all_at end bytes) e w (other_fault e e.kind _ other given)
      (all_again end bytes w s.1)

-- ---- expressions and bodies

-- what was read is of its profile
pub expr_of : (profile : Profile) (old new : Span) (result : Result Instrs ReadFault) → IsBytes old.rest
    → Parses (λ e. e) (expr_at profile) old result new → IfOk result (IsOf profile)
expr_of profile old new (Ok x) fits given =
    let t = expr_takes profile old.end old.rest (x, new.rest) fits given.0 in
    expr_allowed profile x t.front t.spelled
expr_of profile old new (Err e) fits given = tt

pub found_expr_of : (profile : Profile) (bytes : List ℕ) (result : Result Instrs ReadFault) → FindsOnly (λ e. e) (SpellsExpr profile) bytes result
    → IfOk result (IsOf profile)
found_expr_of profile bytes (Ok t) found = expr_allowed profile t bytes found.0.1
found_expr_of profile bytes (Err e) found = tt

pub found_body_of : (profile : Profile) (bytes : List ℕ) (result : Result BodyOf ReadFault) → FindsOnly (λ b. b) (SpellsBody profile) bytes result
    → IfOk result (λ b. IsOf profile b.instrs)
found_body_of profile bytes (Ok b) found = expr_allowed profile b.instrs found.0.1.code found.0.1.spelled
found_body_of profile bytes (Err e) found = tt

pub finds_expr : (profile : Profile) (end : ℕ) (bytes : List ℕ) (result : Result Instrs ReadFault) → IsBytes bytes → Fits bytes
    → Reads (λ e. e) result (all_expr_at profile end bytes) → FindsOnly (λ e. e) (SpellsExpr profile) bytes result
unfolding all_expr_at
finds_expr profile end bytes result fits few given = finds_only (SpellsExpr profile) (expr_at profile) (exprs profile) (λ e. e) end bytes result fits few given

pub finds_body : (profile : Profile) (end : ℕ) (bytes : List ℕ) (result : Result BodyOf ReadFault) → IsBytes bytes → Fits bytes
    → Reads (λ b. b) result (all_body_at profile end bytes) → FindsOnly (λ b. b) (SpellsBody profile) bytes result
unfolding all_body_at
finds_body profile end bytes result fits few given = finds_only (SpellsBody profile) (body_at profile) (bodies profile) (λ b. b) end bytes result fits few given

pub expr_stands : (profile : Profile) (s : Span) (result : Result Instrs ReadFault) → length s.rest ≤ s.end
    → Reads (λ e. e) result (all_expr_at profile s.end s.rest) → IfErr result (λ e. StandsOrMemory s e)
expr_stands profile s (Ok x) fits given = tt
expr_stands profile s (Err e) fits given = stands_or s e _ (λ h. all_expr_stands profile s.end s.rest e h fits) given

pub body_stands : (profile : Profile) (s : Span) (result : Result BodyOf ReadFault) → length s.rest ≤ s.end
    → Reads (λ b. b) result (all_body_at profile s.end s.rest) → IfErr result (λ e. StandsOrMemory s e)
body_stands profile s (Ok x) fits given = tt
body_stands profile s (Err e) fits given = stands_or s e _ (λ h. all_body_stands profile s.end s.rest e h fits) given

-- a fault that stands in the bytes of a whole input
pub stands_in : {X : Type 0} (bytes : List ℕ) (result : Result X ReadFault) → IfErr result (λ e. StandsOrMemory (whole bytes) e)
    → IfErr result (λ e. StandsInCode bytes e)
stands_in bytes (Ok x) stands = tt
stands_in bytes (Err e) stands = StandsOrMemory-whole bytes e stands

-- ---- the expression at the front

-- what was read ahead, from the same place
pub next_taken : (profile : Profile) (old ahead new : Span) (t : Instrs) → ahead ≡ old → Parses (λ e. e) (expr_at profile) ahead (Ok t) new
    → Takes (λ e. e) (expr_at profile) old (Ok t) new
next_taken profile old ahead new t same given = subst (λ (s : Span). Takes (λ e. e) (expr_at profile) s (Ok t) new) same given

pub next_refused : (profile : Profile) (old ahead : Span) (e : ReadFault) → ahead ≡ old → FailsAs e e.kind (expr_at profile ahead.end ahead.rest)
    → Takes {X = Instrs} (λ e. e) (expr_at profile) old (Err e) old
next_refused profile old ahead e same given = (subst (λ (s : Span). FailsAs e e.kind (expr_at profile s.end s.rest)) same given, refl)

pub next_only : (profile : Profile) (old new : Span) (result : Result Instrs ReadFault) → IsBytes old.rest
    → Takes (λ e. e) (expr_at profile) old result new → TakesOnly (λ e. e) (SpellsExpr profile) old result new
next_only profile = takes_only (SpellsExpr profile) (expr_at profile) (exprs profile) (λ e. e)

pub next_stands : (profile : Profile) (old new : Span) (result : Result Instrs ReadFault) → length old.rest ≤ old.end
    → Takes (λ e. e) (expr_at profile) old result new → IfErr result (λ e. StandsOrMemory old e)
next_stands profile = takes_stand (SpellsExpr profile) (expr_at profile) (exprs profile) (λ e. e)

-- ---- all of the bytes of a body

-- the body took all of the bytes
pub body_whole : (profile : Profile) (old ahead new : Span) (b : BodyOf) → ahead ≡ old → Parses (λ c. c) (body_at profile) ahead (Ok b) new
    → new.rest ≡ [] → all_body_at profile old.end old.rest ≡ Ok b
unfolding all_body_at
body_whole profile old ahead new b same given none =
    let read : body_at profile old.end old.rest ≡ Ok (b, new.rest) = subst (λ (s : Span). body_at profile s.end s.rest ≡ Ok (b, new.rest)) same given.0 in
    rw (read, none) refl

-- bytes are left over
left_over : (end : ℕ) (b : BodyOf) (rest : List ℕ) → rest ≢ [] → taking_all end (b, rest) ≡ Err (fault BodySize end rest)
left_over end b [] some = absurd (some refl)
left_over end b (x ∷ rest) some = refl

pub body_longer : (profile : Profile) (old ahead new : Span) (b : BodyOf) (e : ReadFault) → ahead ≡ old
    → Parses (λ c. c) (body_at profile) ahead (Ok b) new → (e ≡ fault BodySize new.end new.rest) × (new.rest ≢ [])
    → FailsAs e e.kind (all_body_at profile old.end old.rest)
unfolding all_body_at
body_longer profile old ahead new b e same given longer =
    let read : body_at profile old.end old.rest ≡ Ok (b, new.rest) = subst (λ (s : Span). body_at profile s.end s.rest ≡ Ok (b, new.rest)) same given.0 in
    let ends : new.end ≡ old.end = given.1 ∙ ap (λ (s : Span). s.end) same in
    let size : ReadFault = fault BodySize new.end new.rest in
    let fails : all_body_at profile old.end old.rest ≡ Err size =
    rw read (left_over old.end b new.rest longer.1 ∙ ap (λ (end : ℕ). Err (fault BodySize end new.rest)) (sym ends)) in
    subst (λ (d : ReadFault). FailsAs d d.kind (all_body_at profile old.end old.rest)) (sym longer.0) fails

-- no body is at the front
pub body_refused : (profile : Profile) (old ahead : Span) (e : ReadFault) → ahead ≡ old → FailsAs e e.kind (body_at profile ahead.end ahead.rest)
    → FailsAs e e.kind (all_body_at profile old.end old.rest)
unfolding all_body_at
body_refused profile old ahead e same given =
    fails_on e e.kind (body_at profile old.end old.rest) (all_body_at profile old.end old.rest) (λ h. rw h refl)
    (subst (λ (s : Span). FailsAs e e.kind (body_at profile s.end s.rest)) same given)

-- ---- local groups

-- what was read ahead, from the same place
pub groups_taken : (groups : List LocalGroup) (old ahead new : Span) → IsBytes old.rest → ahead ≡ old
    → (local_groups_at ahead.end ahead.rest ≡ Ok (groups, new.rest)) × (new.end ≡ ahead.end)
    → TakesOnly {X = Unit {0}} (λ _. groups) SpellsGroups old (Ok tt) new
groups_taken groups old ahead new fits same given =
    takes_only SpellsGroups local_groups_at local_groups {X = Unit {0}} (λ _. groups) old new (Ok tt) fits
    (subst (λ (s : Span). (local_groups_at s.end s.rest ≡ Ok (groups, new.rest)) × (new.end ≡ s.end)) same given)

pub groups_refused : (groups : List LocalGroup) (old ahead : Span) (e : ReadFault) → IsBytes old.rest → ahead ≡ old
    → FailsAs e e.kind (local_groups_at ahead.end ahead.rest) → TakesOnly {X = Unit {0}} (λ _. groups) SpellsGroups old (Err e) old
groups_refused groups old ahead e fits same given =
    takes_only SpellsGroups local_groups_at local_groups {X = Unit {0}} (λ _. groups) old old (Err e) fits
    (subst (λ (s : Span). FailsAs e e.kind (local_groups_at s.end s.rest)) same given, refl)

-- ---- reading as a law

pub exprs_read : (profile : Profile) → IsReadAs (SpellsExpr profile) (expr_at profile)
exprs_read profile = record {
  takes = λ end bytes t rest fits e. let a = expr_takes profile end bytes (t, rest) fits e in (a.front, a.spelled, a.parts);
  again = expr_again profile;
  stands = ReadsFront-expr_at profile;
}

pub all_exprs_read : (profile : Profile) → IsAllReadAs (SpellsExpr profile) (all_expr_at profile)
unfolding all_expr_at
all_exprs_read profile = all_read (SpellsExpr profile) (expr_at profile) (exprs profile)

pub bodies_read : (profile : Profile) → IsAllReadAs (SpellsBody profile) (all_body_at profile)
unfolding all_body_at
bodies_read profile = all_read (SpellsBody profile) (body_at profile) (bodies profile)

-- a fault that stands is no want of memory
stands_not_memory : (s : Span) (e : ReadFault) → Stands s e → e.kind ≢ Memory
stands_not_memory s e stood = λ same. subst (λ (kind : ReadKind). StandsAt kind stood.skipped stood.from) same stood.stands

long_not_memory : long_input.kind ≢ Memory
long_not_memory = λ same. absurd cc

never_memory : {V : Type 0} (read : ℕ → List ℕ → Result V ReadFault)
    → ((end : ℕ) (bytes : List ℕ) (e : ReadFault) → read end bytes ≡ Err e → length bytes ≤ end → Stands (record { rest = bytes; end = end }) e)
    → NeverMemory read
unfolding whole_at
never_memory {V = V} read stands = λ bytes e h.
    elim (chosen (leb (length bytes) 2147483647) (read (length bytes) bytes) (Err long_input) (Err e) h) [
      | inl p ↦ stands_not_memory (whole bytes) e (stands (length bytes) bytes e p.1 (omega arith))
      | inr p ↦ subst (λ (d : ReadFault). d.kind ≢ Memory) (err_is {A = V} long_input e p.1) long_not_memory
    ]

pub exprs_never_memory : (profile : Profile) → NeverMemory (all_expr_at profile)
exprs_never_memory profile = never_memory (all_expr_at profile) (all_expr_stands profile)

pub bodies_never_memory : (profile : Profile) → NeverMemory (all_body_at profile)
bodies_never_memory profile = never_memory (all_body_at profile) (all_body_stands profile)

-- ---- what is read ahead, and fails

-- a fault of reading from the same place stands there
pub front_stands : {A : Type 0} (read : ℕ → List ℕ → Result (A × List ℕ) ReadFault) → ReadsFront read → (old ahead : Span) (e : ReadFault) → ahead ≡ old
    → length old.rest ≤ old.end → FailsAs e e.kind (read ahead.end ahead.rest) → StandsOrMemory old e
front_stands read fronts old ahead e same fits h = stands_or old e _ (λ bad. fronts.faults old.end old.rest e bad fits)
    (subst (λ (s : Span). FailsAs e e.kind (read s.end s.rest)) same h)
