-- The types of the first locals, written out one by one.
use Rattle.std.proofs.Common.{◌≡◌, ℕ, zero, suc, ◌+◌, ◌-◌, ◌<◌, ◌≤◌, Bool, true, false, List, [], ◌∷◌, ◌++◌, length, drop, get_or, replicate, Some}
use Rattle.std.proofs.Common.{slice_get, nat_lt, if◌then◌else◌, refl, sym, ap, ◌∙◌, arith}
use Rattle.std.proofs.lemmas.Bool.{lt-ltb, le-ltb, ltb-true, ltb-false}
use Rattle.std.proofs.lemmas.List.{at_drop_more, length-replicate, get_or-replicate}
use Rattle.std.proofs.lemmas.Option.{slice_get_read}
use Rattle.wk_body.specs.declared.types.ValType.{ValType}
use Rattle.wk_body.specs.declared.types.LocalGroup.{LocalGroup}
use Rattle.wk_typing.specs.Effects.{type_in_groups, local_type}
use Rattle.wk_typing.specs.Locals.{AreFirst}

at_copies : (n : ℕ) (t : ValType) (x : ℕ) → x < n → slice_get (replicate n t) x ≡ Some t
at_copies n t x inside = slice_get_read (replicate n t) n x t (sym (length-replicate n t)) inside (sym (get_or-replicate n x t t inside))

-- copies of one type in front of groups
copies : (n : ℕ) (t : ValType) (gs : List LocalGroup) (x : ℕ) → local_type (replicate n t) gs x ≡ (if nat_lt x n then Some t else type_in_groups gs (x - n))
copies n t gs x = rw (length-replicate n t) (go (nat_lt x n) (λ e. at_copies n t x (ltb-true x n e)))
  where
    go : (b : Bool) → (b ≡ true → slice_get (replicate n t) x ≡ Some t)
        → (if b then slice_get (replicate n t) x else type_in_groups gs (x - n)) ≡ (if b then Some t else type_in_groups gs (x - n))
    go true found = found refl
    go false found = refl

-- behind no types stand those of the groups
none_first : (gs : List LocalGroup) (x : ℕ) → local_type [] gs x ≡ type_in_groups gs x
none_first gs x = rw (le-ltb x 0 (omega arith)) (ap (type_in_groups gs) (omega arith))

at_head : (t : ValType) (ts : List ValType) (gs : List LocalGroup) → local_type (t ∷ ts) gs 0 ≡ Some t
at_head t ts gs = rw (lt-ltb 0 (suc (length ts)) (omega arith)) refl

at_tail : (t : ValType) (ts : List ValType) (gs : List LocalGroup) (x : ℕ) → local_type (t ∷ ts) gs (suc x) ≡ local_type ts gs x
at_tail t ts gs x = go (nat_lt x (length ts)) refl
  where
    go : (b : Bool) → nat_lt x (length ts) ≡ b → local_type (t ∷ ts) gs (suc x) ≡ local_type ts gs x
    go true e =
        let inside : x < length ts = ltb-true x (length ts) e in
        rw (lt-ltb (suc x) (suc (length ts)) (omega arith), e) refl
    go false e =
        let past : length ts ≤ x = ltb-false x (length ts) e in
        rw (le-ltb (suc x) (suc (length ts)) (omega arith), e) (ap (type_in_groups gs) (omega arith))

one_group : (first : List ValType) (g : LocalGroup) (gs : List LocalGroup) (x : ℕ)
    → local_type (first ++ replicate g.count g.ty) gs x ≡ local_type first (g ∷ gs) x
one_group [] g gs x = copies g.count g.ty gs x ∙ sym (none_first (g ∷ gs) x)
one_group (t ∷ ts) g gs zero = at_head t (ts ++ replicate g.count g.ty) gs ∙ sym (at_head t ts (g ∷ gs))
one_group (t ∷ ts) g gs (suc x) = at_tail t (ts ++ replicate g.count g.ty) gs x ∙ one_group ts g gs x ∙ sym (at_tail t ts (g ∷ gs) x)

-- the locals of the next group are written
pub written_more : (params : List ValType) (groups : List LocalGroup) (at : ℕ) (first : List ValType) (g : LocalGroup) → at < length groups
    → AreFirst params groups at first
    → AreFirst params groups (at + 1) (first ++ replicate (get_or groups at g).count (get_or groups at g).ty)
written_more params groups at first g inside w = λ x.
    one_group first (get_or groups at g) (drop (at + 1) groups) x
    ∙ sym (at_drop_more (λ (gs : List LocalGroup). local_type first gs x) groups at g inside) ∙ w x
