-- The loop that reads local groups.
use Rattle.std.proofs.Common.{◌≡◌, ℕ, suc, ◌+◌, ◌-◌, ◌<◌, ◌≤◌, ◌^◌, List, [], ◌∷◌, ◌++◌, Result, Ok, Err, refl, sym, ap, ◌∙◌, append_assoc, arith}
use Rattle.std.proofs.lemmas.Bool.{lt-ltb, le-ltb}
use Rattle.std.proofs.lemmas.List.{append-nil}
use Rattle.wk_bytes.specs.declared.fault.ReadKind.TheVariants.{TooManyLocals}
use Rattle.wk_bytes.specs.declared.fault.ReadFault.{ReadFault}
use Rattle.wk_bytes.specs.Leb.{◌>>=◌}
use Rattle.wk_bytes.specs.Span.{Span, fault, u32_at}
use Rattle.wk_body.specs.declared.types.ValType.{ValType}
use Rattle.wk_body.specs.declared.types.LocalGroup.{LocalGroup}
use Rattle.wk_body.specs.ValTypes.{valtype_at}
use Rattle.wk_body.specs.Reading.{groups_at}

abbrev pub Groups : Type 0
Groups = Result (List LocalGroup × List ℕ) ReadFault

-- what is read, behind groups that were read
abbrev pub with_groups : List LocalGroup → Groups → Groups
with_groups gs read = read >>= λ x. Ok (gs ++ x.0, x.1)

-- so many groups are left, behind groups that declare so many locals
pub record InGroups (groups : List LocalGroup) (left sum : ℕ) (from to : Span) (whole : Groups) : Type 0 where
  pub reads : whole ≡ with_groups groups (groups_at left sum to.end to.rest)
  pub same_end : to.end ≡ from.end

pub groups_end : (groups : List LocalGroup) (left sum : ℕ) (from to : Span) (whole : Groups) → left ≡ 0 → InGroups groups left sum from to whole
    → whole ≡ Ok (groups, to.rest)
unfolding groups_at
groups_end groups left sum from to whole none i =
    i.reads ∙ ap (λ (n : ℕ). with_groups groups (groups_at n sum to.end to.rest)) none ∙ ap (λ (gs : List LocalGroup). Ok (gs, to.rest)) (append-nil groups)

-- no count of locals stands there
pub groups_uncounted : (groups : List LocalGroup) (all i sum : ℕ) (from to : Span) (whole : Groups) (e : ReadFault) → i < all
    → InGroups groups (all - i) sum from to whole → u32_at to.end to.rest ≡ Err e → whole ≡ Err e
unfolding groups_at
groups_uncounted groups all i sum from to whole e lt g bad =
    let more : all - i ≡ suc (all - (i + 1)) = omega arith in
    g.reads ∙ ap (λ (k : ℕ). with_groups groups (groups_at k sum to.end to.rest)) more ∙ rw bad refl

-- the count makes too many
pub groups_too_many : (groups : List LocalGroup) (all i sum count : ℕ) (from to : Span) (rest : List ℕ) (whole : Groups) → i < all
    → InGroups groups (all - i) sum from to whole → u32_at to.end to.rest ≡ Ok (count, rest) → 2 ^ 32 ≤ sum + count
    → whole ≡ Err (fault TooManyLocals to.end to.rest)
unfolding groups_at
groups_too_many groups all i sum count from to rest whole lt g counted many =
    let more : all - i ≡ suc (all - (i + 1)) = omega arith in
    g.reads ∙ ap (λ (k : ℕ). with_groups groups (groups_at k sum to.end to.rest)) more ∙ rw (counted, le-ltb (sum + count) (2 ^ 32) many) refl

-- no type stands behind the count
pub groups_untyped : (groups : List LocalGroup) (all i sum count : ℕ) (from to mid : Span) (whole : Groups) (e : ReadFault) → i < all
    → InGroups groups (all - i) sum from to whole → u32_at to.end to.rest ≡ Ok (count, mid.rest) → mid.end ≡ to.end → sum + count < 2 ^ 32
    → valtype_at mid.end mid.rest ≡ Err e → whole ≡ Err e
unfolding groups_at
groups_untyped groups all i sum count from to mid whole e lt g counted same few bad =
    let more : all - i ≡ suc (all - (i + 1)) = omega arith in
    let untyped : valtype_at to.end mid.rest ≡ Err e = ap (λ (end : ℕ). valtype_at end mid.rest) (sym same) ∙ bad in
    g.reads ∙ ap (λ (k : ℕ). with_groups groups (groups_at k sum to.end to.rest)) more ∙ rw (counted, lt-ltb (sum + count) (2 ^ 32) few, untyped) refl

-- one group more in front of what is read
one_group : (groups : List LocalGroup) (g : LocalGroup) (read : Groups)
    → with_groups groups (read >>= λ gs. Ok (g ∷ gs.0, gs.1)) ≡ with_groups (groups ++ g ∷ []) read
one_group groups g (Ok x) = ap (λ (gs : List LocalGroup). Ok (gs, x.1)) (sym (append_assoc groups (g ∷ []) x.0))
one_group groups g (Err e) = refl

pub groups_go_on : (groups : List LocalGroup) (all i sum count : ℕ) (ty : ValType) (from to mid new : Span) (whole : Groups) → i < all
    → InGroups groups (all - i) sum from to whole → u32_at to.end to.rest ≡ Ok (count, mid.rest) → mid.end ≡ to.end → sum + count < 2 ^ 32
    → valtype_at mid.end mid.rest ≡ Ok (ty, new.rest) → new.end ≡ mid.end
    → InGroups (groups ++ record { count = count; ty = ty } ∷ []) (all - (i + 1)) (sum + count) from new whole
unfolding groups_at
groups_go_on groups all i sum count ty from to mid new whole lt g counted same few typed on =
    let more : all - i ≡ suc (all - (i + 1)) = omega arith in
    let typed_there : valtype_at to.end mid.rest ≡ Ok (ty, new.rest) = ap (λ (end : ℕ). valtype_at end mid.rest) (sym same) ∙ typed in
    let ends : new.end ≡ to.end = on ∙ same in
    record {
      reads =
          g.reads ∙ ap (λ (k : ℕ). with_groups groups (groups_at k sum to.end to.rest)) more
          ∙ rw (counted, lt-ltb (sum + count) (2 ^ 32) few, typed_there)
          (one_group groups (record { count = count; ty = ty }) (groups_at (all - (i + 1)) (sum + count) to.end new.rest))
          ∙ ap (λ (end : ℕ). with_groups (groups ++ record { count = count; ty = ty } ∷ []) (groups_at (all - (i + 1)) (sum + count) end new.rest)) (sym ends);
      same_end = ends ∙ g.same_end;
    }
