-- Where the groups of locals end, and the group in which a local is found by that.
use Rattle.std.proofs.Common.{◌≡◌, ℕ, zero, suc, ◌+◌, ◌-◌, ◌<◌, ◌≤◌, true, false, leb, List, [], ◌∷◌, ◌++◌, length, drop, get_or, Option, Some, None, slice_get}
use Rattle.std.proofs.Common.{option_map, option_copied, MatchOption, Bor, refl, sym, ap, subst, ◌∙◌, arith, append_assoc}
use Rattle.std.specs.Option.{IsSomeAnd}
use Rattle.std.specs.Slice.{IsItemAt}
use Rattle.std.specs.List.Sorted.{IsNonDecreasingBy, IsPartitionPoint}
use Rattle.std.proofs.lemmas.Bool.{lt-ltb, le-ltb, leb-true, leb-false, ltb-true, ltb-false}
use Rattle.std.proofs.lemmas.List.{append-nil, at_drop_more, drop_all, length-drop}
use Rattle.std.proofs.lemmas.Option.{slice_get_past, slice_get_read}
use Rattle.wk_body.specs.declared.types.ValType.{ValType}
use Rattle.wk_body.specs.declared.types.LocalGroup.{LocalGroup}
use Rattle.wk_body.specs.Bodies.{local_count, AreGroups}
use Rattle.wk_typing.specs.Effects.{type_in_groups}
use Rattle.wk_typing.specs.Locals.{ends_from}

-- ---- counting

-- So many groups are counted, to this total, and their ends are written.
pub record AreEnding (groups : List LocalGroup) (at total : ℕ) (ends : List ℕ) : Type 0 where
  pub written : ends ++ ends_from total (drop at groups) ≡ ends_from 0 groups
  pub counted : total + local_count (drop at groups) ≡ local_count groups

pub ending_first : (groups : List LocalGroup) (ends : List ℕ) → ends ≡ [] → AreEnding groups 0 0 ends
ending_first groups ends e = record { written = ap (λ (es : List ℕ). es ++ ends_from 0 groups) e; counted = omega arith }

-- the next total is not above the number of all locals
pub ending_within : (groups : List LocalGroup) (at total : ℕ) (ends : List ℕ) (g : LocalGroup) → at < length groups → AreEnding groups at total ends
    → total + (get_or groups at g).count ≤ local_count groups
ending_within groups at total ends g inside p =
    let more = at_drop_more local_count groups at g inside in
    let counted = p.counted in
    omega arith

pub ending_more : (groups : List LocalGroup) (at total : ℕ) (ends : List ℕ) (g : LocalGroup) → at < length groups → AreEnding groups at total ends
    → AreEnding groups (at + 1) (total + (get_or groups at g).count) (ends ++ (total + (get_or groups at g).count) ∷ [])
ending_more groups at total ends g inside p = record {
  written =
      append_assoc ends ((total + (get_or groups at g).count) ∷ []) (ends_from (total + (get_or groups at g).count) (drop (at + 1) groups))
      ∙ ap (λ (es : List ℕ). ends ++ es) (sym (at_drop_more (ends_from total) groups at g inside))
      ∙ p.written;
  counted =
      let more = at_drop_more local_count groups at g inside in
      let counted = p.counted in
      omega arith;
}

pub ending_last : (groups : List LocalGroup) (at total : ℕ) (ends : List ℕ) → length groups ≤ at → AreEnding groups at total ends → ends ≡ ends_from 0 groups
ending_last groups at total ends past p =
    sym (append-nil ends) ∙ ap (λ (gs : List LocalGroup). ends ++ ends_from total gs) (sym (drop_all at groups past)) ∙ p.written

few_behind : (groups : List LocalGroup) (n : ℕ) → local_count (drop n groups) ≤ local_count groups
few_behind groups zero = omega arith
few_behind [] (suc n) = omega arith
few_behind (g ∷ gs) (suc n) =
    let rest = few_behind gs n in
    omega arith

-- groups behind others are ones that bytes can spell, too
pub groups_behind : (groups : List LocalGroup) (n : ℕ) → AreGroups groups → AreGroups (drop n groups)
groups_behind groups n are =
    let counted = are.counted in
    let few = are.few in
    record { counted = omega (arith, length-drop n groups); few = omega (arith, few_behind groups n) }

-- ---- the ends never fall

ends_above : (groups : List LocalGroup) (n i d : ℕ) → i < length (ends_from n groups) → n ≤ get_or (ends_from n groups) i d
ends_above [] n i d h = absurd (omega arith)
ends_above (g ∷ gs) n zero d h = omega arith
ends_above (g ∷ gs) n (suc i) d h =
    let rest = ends_above gs (n + g.count) i d (omega arith) in
    omega arith

ends_rise : (groups : List LocalGroup) (n i j d : ℕ) → i ≤ j → j < length (ends_from n groups)
    → get_or (ends_from n groups) i d ≤ get_or (ends_from n groups) j d
ends_rise [] n i j d le h = absurd (omega arith)
ends_rise (g ∷ gs) n zero zero d le h = omega arith
ends_rise (g ∷ gs) n zero (suc j) d le h = ends_above gs (n + g.count) j d (omega arith)
ends_rise (g ∷ gs) n (suc i) zero d le h = absurd (omega arith)
ends_rise (g ∷ gs) n (suc i) (suc j) d le h = ends_rise gs (n + g.count) i j d (omega arith) (omega arith)

pub ends_in_order : (groups : List LocalGroup) → IsNonDecreasingBy (λ x. x) (ends_from 0 groups)
ends_in_order groups i j d le h = ends_rise groups 0 i j d le h

-- ---- a local stands in the group in front of whose end it is

-- the ends below p are at most at, and those from p on are above it
abbrev pub IsSplit : (at : ℕ) → List ℕ → ℕ → Type 0
IsSplit at ends p = IsPartitionPoint (λ y. leb y at ≡ true) (λ y. leb y at ≡ false) ends p

split_rest : (at end : ℕ) (ends : List ℕ) (p : ℕ) → IsSplit at (end ∷ ends) (suc p) → IsSplit at ends p
split_rest at end ends p s = (λ k d low high. s.0 (suc k) d (omega arith) (omega arith), λ k d low high. s.1 (suc k) d (omega arith) (omega arith))

split_zero : (at end : ℕ) (ends : List ℕ) → IsSplit at (end ∷ ends) zero → at < end
split_zero at end ends s = leb-false end at (s.1 0 0 (omega arith) (omega arith))

split_suc : (at end : ℕ) (ends : List ℕ) (p : ℕ) → IsSplit at (end ∷ ends) (suc p) → end ≤ at
split_suc at end ends p s = leb-true end at (s.0 0 0 (omega arith) (omega arith))

group_from : (groups : List LocalGroup) (n x at p : ℕ) → at ≡ n + x → IsSplit at (ends_from n groups) p
    → type_in_groups groups x ≡ option_map (λ (g : LocalGroup). g.ty) (slice_get groups p)
group_from [] n x at p e s = refl
group_from (g ∷ gs) n x at zero e s =
    let before : at < n + g.count = split_zero at (n + g.count) (ends_from (n + g.count) gs) s in
    rw (lt-ltb x g.count (omega arith)) refl
group_from (g ∷ gs) n x at (suc p) e s =
    let past : n + g.count ≤ at = split_suc at (n + g.count) (ends_from (n + g.count) gs) p s in
    rw (le-ltb x g.count (omega arith))
    (group_from gs (n + g.count) (x - g.count) at p (omega arith) (split_rest at (n + g.count) (ends_from (n + g.count) gs) p s))

pub group_found : (groups : List LocalGroup) (ends : List ℕ) (at p : ℕ) → ends ≡ ends_from 0 groups → IsSplit at ends p
    → type_in_groups groups at ≡ option_map (λ (g : LocalGroup). g.ty) (slice_get groups p)
group_found groups ends at p e s = group_from groups 0 at at p (omega arith) (subst (λ (es : List ℕ). IsSplit at es p) e s)

-- ---- the type of a group that is found

copied_is : (o : Option (Bor LocalGroup)) (groups : List LocalGroup) (i : ℕ) → IsItemAt groups i o → option_copied o ≡ slice_get groups i
copied_is None groups i h = sym (slice_get_past groups i (ltb-false i (length groups) (sym h.0)))
copied_is (Some b) groups i h = sym (slice_get_read groups (length groups) i b.now refl (ltb-true i (length groups) (sym h.0)) h.1)

read_type : (o : Option (Bor LocalGroup)) (r : Option ValType) {P : Bor LocalGroup → ValType → Type 0}
    → MatchOption o (r ≡ None) (λ b. IsSomeAnd r (P b)) → ((b : Bor LocalGroup) (t : ValType) → P b t → t ≡ b.now.ty)
    → r ≡ option_map (λ (g : LocalGroup). g.ty) (option_copied o)
read_type None r h k = h
read_type (Some b) None h k = absurd h
read_type (Some b) (Some t) h k = ap Some (k b t h)

-- the type that is read of a group, if it is there
pub type_of_group : (groups : List LocalGroup) (i : ℕ) (o : Option (Bor LocalGroup)) (r : Option ValType) {P : Bor LocalGroup → ValType → Type 0}
    → IsItemAt groups i o → MatchOption o (r ≡ None) (λ b. IsSomeAnd r (P b))
    → ((b : Bor LocalGroup) (t : ValType) → P b t → t ≡ b.now.ty) → r ≡ option_map (λ (g : LocalGroup). g.ty) (slice_get groups i)
type_of_group groups i o r at h k = read_type o r h k ∙ ap (option_map (λ (g : LocalGroup). g.ty)) (copied_is o groups i at)
