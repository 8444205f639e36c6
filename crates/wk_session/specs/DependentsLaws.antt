-- The functions that an edit has to type again are those that refer to something that changes, and those that it has to encode again hold
-- something that moves. What it leaves of a function refers to what the function referred to, each reference moved.
use Rattle.std.proofs.Common.{◌≡◌, ◌≢◌, ℕ, zero, suc, ◌+◌, ◌-◌, ◌<◌, nat_lt, nat_le, Bool, true, if◌then◌else◌, inl, inr, Option, Some, List, [], ◌∷◌}
use Rattle.std.proofs.Common.{◌++◌, length, map, take, drop, filter, get_or, Result, Ok, refl, sym, ap, subst, ◌∙◌, arith}
use Rattle.std.specs.Prelude.{◌↔◌}
use Rattle.std.specs.List.{flat_map, list_any}
use Rattle.std.proofs.lemmas.Bool.{cases_Bool, or_left, or_right, cond-true, cond-false}
use Rattle.std.proofs.lemmas.Bool.Decides.{nat_tests}
use Rattle.std.proofs.lemmas.List.{map-append, map-id}
use Rattle.std.proofs.Math.Seq.{take-append_seam}
use Rattle.wk_body.specs.declared.renumber.Moving.{Moving}
use Rattle.wk_body.specs.declared.renumber.Moving.TheVariants as moving
use Rattle.wk_body.specs.declared.references.Ref.{Ref}
use Rattle.wk_body.specs.declared.references.Ref.TheVariants.{Ty, Func, Global}
use Rattle.wk_body.specs.declared.types.BlockType.{BlockType}
use Rattle.wk_body.specs.declared.types.BlockType.TheVariants.{Index}
use Rattle.wk_body.specs.Bodies.{BodyOf}
use Rattle.wk_body.specs.Instructions.{Plain, Call, GlobalGet, GlobalSet}
use Rattle.wk_body.specs.Moves.{is_moving}
use Rattle.wk_body.specs.Reading.{all_body_at, all_expr_at, whole_at}
use Rattle.wk_body.specs.References.{IsAmong, index, plain_refs, type_refs, refs_of, moved, moved_plain, shift_instrs}
use Rattle.wk_body.specs.Tree.{Instrs, Finish, One, Block, If}
use Rattle.wk_module.specs.declared.types.Func.{Func as Function}
use Rattle.wk_module.specs.declared.types.Kind.{Kind}
use Rattle.wk_module.specs.declared.types.Kind.TheVariants as kinds
use Rattle.wk_module.specs.declared.types.Parts.{Parts}
use Rattle.wk_module.specs.Changes.{with_type, with_import, with_func, with_body, with_global, with_export, first_given, without_first}
use Rattle.wk_module.specs.Items.{desc_kind}
use Rattle.wk_module.specs.Moving.{is_code_moving, are_parts_stuck, moved_func, moved_parts}
use Rattle.wk_module.specs.Shape.{settle}
use Rattle.wk_typing.specs.Carried.{moved_ref}
use Rattle.wk_check.specs.SpacesLaws.{answers_of}
use Rattle.wk_session.specs.declared.edit.Edit.{Edit}
use Rattle.wk_session.specs.declared.edit.Edit.TheVariants as edits
use Rattle.wk_session.specs.declared.edit.EditFault.{EditFault}
use Rattle.wk_session.specs.Dependents.{held, differs_in, is_retyped, is_reencoded, ref_moved, ref_after, answers_after, all_but, left}
use Rattle.wk_session.specs.Edits.{import_place, entry_of, is_named, without_customs, with_custom, edited, made}
use Rattle.wk_session.specs.MadeLaws.{Gives, then_lasting, fitting_gives, bytes_gives, body_gives, import_gives, exports_gives, customs_gives}

-- whether a reference of m finds another thing in n, which the edit makes of m
abbrev pub differs : Edit → Parts → Parts → Ref → Bool
differs e m n r = differs_in (answers_of m) (answers_after e m n) r

-- the references of m's functions that find another thing in n, as they stand in n
abbrev pub changed : Edit → Parts → Parts → List Ref
changed e m n = map (ref_after e m) (filter (differs e m n) (flat_map held m.funcs))

-- what a function of m refers to, as it stands in n
abbrev pub held_after : Edit → Parts → Function → List Ref
held_after e m f = map (ref_after e m) (held f)

-- one reference is among both
abbrev pub Meet : List Ref → List Ref → Type 0
Meet xs ys = (r : Ref) × IsAmong r xs × IsAmong r ys

-- among these references of m is one that the edit makes another one
abbrev pub AnyMoves : Edit → Parts → List Ref → Type 0
AnyMoves e m rs = (r : Ref) × IsAmong r rs × (ref_after e m r ≢ r)

-- a function of m that the edit leaves, as it stands after it
abbrev pub func_after : Edit → Parts → Function → Function
func_after (edits.Import i) m f = moved_func (desc_kind i.desc) (import_place i m) f
func_after _ m f = f

-- the functions of n, which the edit makes of m, that it neither gives nor replaces
abbrev pub left_in : Edit → Parts → Parts → List Function
left_in (edits.Func t code) m n = take (length m.funcs) n.funcs
left_in (edits.Body x code) m n = all_but (entry_of x m) n.funcs
left_in _ m n = n.funcs

-- ---- moving can be undone, so it tells references apart

abbrev unmoved : ℕ → ℕ → ℕ
unmoved from x = if nat_lt from x then x - 1 else x

unmoved-moved : (from x : ℕ) → unmoved from (moved from x) ≡ x
unmoved-moved from x = grind (arith, nat_tests)

abbrev back : Moving → ℕ → Ref → Ref
back moving.Func from (Func x) = Func (unmoved from x)
back moving.Global from (Global x) = Global (unmoved from x)
back kind from r = r

back-moved : (kind : Moving) (from : ℕ) (r : Ref) → back kind from (moved_ref kind from r) ≡ r
back-moved moving.Func from (Func x) = ap Func (unmoved-moved from x)
back-moved moving.Global from (Global x) = ap Global (unmoved-moved from x)
back-moved kind from r = refl

kind_apart : (kind : Kind) (from : ℕ) (a b : Ref) → ref_moved kind from a ≡ ref_moved kind from b → a ≡ b
kind_apart kinds.Func from a b e = sym (back-moved moving.Func from a) ∙ ap (back moving.Func from) e ∙ back-moved moving.Func from b
kind_apart kinds.Table from a b e = e
kind_apart kinds.Memory from a b e = e
kind_apart kinds.Global from a b e = sym (back-moved moving.Global from a) ∙ ap (back moving.Global from) e ∙ back-moved moving.Global from b

after_apart : (e : Edit) (m : Parts) (a b : Ref) → ref_after e m a ≡ ref_after e m b → a ≡ b
after_apart (edits.Import i) m a b same = kind_apart (desc_kind i.desc) (import_place i m) a b same
after_apart _ m a b same = same

-- ---- what is among lists

any_among : (p : Ref → Bool) (r : Ref) (xs : List Ref) → IsAmong r xs → p r ≡ true → list_any p xs ≡ true
any_among p r [] a h = absurd a
any_among p r (x ∷ xs) (inl e) h = or_left (p x) (list_any p xs) (ap p (sym e) ∙ h)
any_among p r (x ∷ xs) (inr a) h = or_right (p x) (list_any p xs) (any_among p r xs a h)

among_any : (p : Ref → Bool) (xs : List Ref) → list_any p xs ≡ true → (r : Ref) × IsAmong r xs × (p r ≡ true)
among_any p [] h = absurd cc
among_any p (x ∷ xs) h =
    elim (cases_Bool (p x)) [
      | inl t ↦ (x, inl refl, t)
      | inr f ↦ let rest = among_any p xs (rw f at h) in (rest.0, inr rest.1, rest.2)
    ]

among_map : (f : Ref → Ref) (r : Ref) (xs : List Ref) → IsAmong r xs → IsAmong (f r) (map f xs)
among_map f r [] a = absurd a
among_map f r (x ∷ xs) (inl e) = inl (ap f e)
among_map f r (x ∷ xs) (inr a) = inr (among_map f r xs a)

map_among : (f : Ref → Ref) (y : Ref) (xs : List Ref) → IsAmong y (map f xs) → (r : Ref) × IsAmong r xs × (y ≡ f r)
map_among f y [] a = absurd a
map_among f y (x ∷ xs) (inl e) = (x, inl refl, e)
map_among f y (x ∷ xs) (inr a) = let rest = map_among f y xs a in (rest.0, inr rest.1, rest.2)

among_filter : (p : Ref → Bool) (r : Ref) (xs : List Ref) → IsAmong r xs → p r ≡ true → IsAmong r (filter p xs)
among_filter p r [] a h = absurd a
among_filter p r (x ∷ xs) (inl e) h = let yes : p x ≡ true = ap p (sym e) ∙ h in rw yes (inl e)
among_filter p r (x ∷ xs) (inr a) h =
    elim (cases_Bool (p x)) [
      | inl t ↦ rw t (inr (among_filter p r xs a h))
      | inr f ↦ rw f (among_filter p r xs a h)
    ]

filter_among : (p : Ref → Bool) (r : Ref) (xs : List Ref) → IsAmong r (filter p xs) → p r ≡ true
filter_among p r [] a = absurd a
filter_among p r (x ∷ xs) a =
    elim (cases_Bool (p x)) [
      | inl t ↦ elim (rw t at a) [
        | inl e ↦ ap p e ∙ t
        | inr rest ↦ filter_among p r xs rest
      ]
      | inr f ↦ filter_among p r xs (rw f at a)
    ]

among_front : (r : Ref) (xs ys : List Ref) → IsAmong r xs → IsAmong r (xs ++ ys)
among_front r [] ys a = absurd a
among_front r (x ∷ xs) ys (inl e) = inl e
among_front r (x ∷ xs) ys (inr a) = inr (among_front r xs ys a)

among_back : (r : Ref) (xs ys : List Ref) → IsAmong r ys → IsAmong r (xs ++ ys)
among_back r [] ys a = a
among_back r (x ∷ xs) ys a = inr (among_back r xs ys a)

among_all : (fs : List Function) (i : ℕ) (f : Function) (r : Ref) → i < length fs → f ≡ get_or fs i f → IsAmong r (held f) → IsAmong r (flat_map held fs)
among_all [] i f r within at a = absurd (omega arith)
among_all (g ∷ fs) zero f r within at a = among_front r (held g) (flat_map held fs) (subst (λ (h : Function). IsAmong r (held h)) at a)
among_all (g ∷ fs) (suc i) f r within at a = among_back r (held g) (flat_map held fs) (among_all fs i f r (omega arith) at a)

-- ---- the law

meets : (e : Edit) (m n : Parts) (i : ℕ) (f : Function) → i < length m.funcs → f ≡ get_or m.funcs i f → is_retyped e m n f ≡ true
    → Meet (held_after e m f) (changed e m n)
meets e m n i f within at h =
    let w = among_any (differs e m n) (held f) h in
    let all = among_all m.funcs i f w.0 within at w.1 in
    let s = ref_after e m in (
      s w.0,
      among_map s w.0 (held f) w.1,
      among_map s w.0 (filter (differs e m n) (flat_map held m.funcs))
          (among_filter (differs e m n) w.0 (flat_map held m.funcs) all w.2),
    )

met : (e : Edit) (m n : Parts) (f : Function) → Meet (held_after e m f) (changed e m n) → is_retyped e m n f ≡ true
met e m n f w =
    let s = ref_after e m in
    let p = differs e m n in
    let here = map_among s w.0 (held f) w.1 in
    let there = map_among s w.0 (filter p (flat_map held m.funcs)) w.2 in
    let same = after_apart e m here.0 there.0 (sym here.2 ∙ there.2) in
    any_among p here.0 (held f) here.1 (ap p same ∙ filter_among p there.0 (flat_map held m.funcs) there.1)

-- A function of m is typed again exactly where something that it refers to is among what changes.
abbrev pub RetypedMeets : Type 0
RetypedMeets = (e : Edit) (m n : Parts) (i : ℕ) (f : Function) → i < length m.funcs → f ≡ get_or m.funcs i f → is_retyped e m n f ≡ true
    ↔ Meet (held_after e m f) (changed e m n)

pub retyped_meets : RetypedMeets
retyped_meets e m n i f within at = ((λ h. meets e m n i f within at h), (λ w. met e m n f w))

-- ---- what a function holds, moved

append_moved : (g : Ref → Ref) (first second : List Ref) {xs ys : List Ref} → xs ≡ map g first → ys ≡ map g second → xs ++ ys ≡ map g (first ++ second)
append_moved g first second {xs} {ys} p q = ap (λ (l : List Ref). l ++ ys) p ∙ ap (λ (l : List Ref). map g first ++ l) q ∙ sym (map-append g first second)

plain_moved : (kind : Moving) (from : ℕ) (p : Plain) → plain_refs (moved_plain kind from p) ≡ map (moved_ref kind from) (plain_refs p)
plain_moved moving.Func from (Call x) = refl
plain_moved moving.Global from (GlobalGet x) = refl
plain_moved moving.Global from (GlobalSet x) = refl
plain_moved kind from p = refl

type_moved : (kind : Moving) (from : ℕ) (ty : BlockType) → type_refs ty ≡ map (moved_ref kind from) (type_refs ty)
type_moved moving.Func from (Index x) = refl
type_moved moving.Global from (Index x) = refl
type_moved kind from ty = refl

instrs_moved : (kind : Moving) (from : ℕ) (t : Instrs) → refs_of (shift_instrs kind from t) ≡ map (moved_ref kind from) (refs_of t)
instrs_moved kind from Finish = refl
instrs_moved kind from (One p rest) = append_moved (moved_ref kind from) (plain_refs p) (refs_of rest) (plain_moved kind from p) (instrs_moved kind from rest)
instrs_moved kind from (Block k ty inside rest) =
    let g = moved_ref kind from in
    append_moved g (type_refs ty) (refs_of inside ++ refs_of rest) (type_moved kind from ty)
    (append_moved g (refs_of inside) (refs_of rest) (instrs_moved kind from inside) (instrs_moved kind from rest))
instrs_moved kind from (If ty first second rest) =
    let g = moved_ref kind from in
    append_moved g (type_refs ty) (refs_of first ++ (refs_of second ++ refs_of rest)) (type_moved kind from ty)
    (append_moved g (refs_of first) (refs_of second ++ refs_of rest) (instrs_moved kind from first)
    (append_moved g (refs_of second) (refs_of rest) (instrs_moved kind from second) (instrs_moved kind from rest)))

held_moved : (kind : Kind) (from : ℕ) (f : Function) → held (moved_func kind from f) ≡ map (ref_moved kind from) (held f)
held_moved kinds.Func from f = ap (λ (rs : List Ref). Ty f.ty ∷ rs) (instrs_moved moving.Func from f.body.instrs)
held_moved kinds.Table from f = sym (map-id (held f))
held_moved kinds.Memory from f = sym (map-id (held f))
held_moved kinds.Global from f = ap (λ (rs : List Ref). Ty f.ty ∷ rs) (instrs_moved moving.Global from f.body.instrs)

-- What a function refers to after an edit that leaves it is what it referred to, each reference moved.
abbrev pub HeldMoves : Type 0
HeldMoves = (e : Edit) (m : Parts) (f : Function) → held (func_after e m f) ≡ held_after e m f

pub held_moves : HeldMoves
held_moves (edits.Import i) m f = held_moved (desc_kind i.desc) (import_place i m) f
held_moves _ m f = sym (map-id (held f))

-- ---- what is encoded again

moved_other : (from x : ℕ) → nat_le from x ≡ true → moved from x ≢ x
moved_other from x h = λ same. let more : moved from x ≡ x + 1 = cond-true (nat_le from x) (x + 1) x h in absurd (omega (arith, sym more ∙ same))

moving_other : (kind : Moving) (from : ℕ) (r : Ref) → is_moving kind from r ≡ true → moved_ref kind from r ≢ r
moving_other moving.Func from (Func x) h = λ same. moved_other from x h (ap index same)
moving_other moving.Global from (Global x) h = λ same. moved_other from x h (ap index same)
moving_other kind from r h = absurd cc

other_index : (from x : ℕ) → (moved from x ≡ x → ⊥) → nat_le from x ≡ true
other_index from x differs = elim (cases_Bool (nat_le from x)) [ inl t ↦ t | inr f ↦ absurd (differs (cond-false (nat_le from x) (x + 1) x f)) ]

other_moving : (kind : Moving) (from : ℕ) (r : Ref) → moved_ref kind from r ≢ r → is_moving kind from r ≡ true
other_moving moving.Func from (Func x) differs = other_index from x (λ same. differs (ap Func same))
other_moving moving.Global from (Global x) differs = other_index from x (λ same. differs (ap Global same))
other_moving kind from r differs = absurd (differs refl)

-- of functions and of globals
code_moves : (kind : Moving) (from : ℕ) (f : Function) → list_any (is_moving kind from) (refs_of f.body.instrs) ≡ true
    → (r : Ref) × IsAmong r (held f) × (moved_ref kind from r ≢ r)
code_moves kind from f h =
    let w = among_any (is_moving kind from) (refs_of f.body.instrs) h in
    (w.0, inr w.1, moving_other kind from w.0 w.2)

type_stays : (kind : Moving) (from t : ℕ) → moved_ref kind from (Ty t) ≡ Ty t
type_stays moving.Func from t = refl
type_stays moving.Global from t = refl

moves_code : (kind : Moving) (from : ℕ) (f : Function) → ((r : Ref) × IsAmong r (held f) × (moved_ref kind from r ≢ r))
    → list_any (is_moving kind from) (refs_of f.body.instrs) ≡ true
moves_code kind from f w =
    elim w.1 [
      | inl e ↦ absurd (w.2 (ap (moved_ref kind from) e ∙ type_stays kind from f.ty ∙ sym e))
      | inr a ↦ any_among (is_moving kind from) w.0 (refs_of f.body.instrs) a (other_moving kind from w.0 w.2)
    ]

kind_moves : (kind : Kind) (from : ℕ) (f : Function) → is_code_moving kind from f.body.instrs ≡ true
    ↔ ((r : Ref) × IsAmong r (held f) × (ref_moved kind from r ≢ r))
kind_moves kinds.Func from f = (code_moves moving.Func from f, moves_code moving.Func from f)
kind_moves kinds.Table from f = ((λ h. absurd cc), (λ w. absurd (w.2 refl)))
kind_moves kinds.Memory from f = ((λ h. absurd cc), (λ w. absurd (w.2 refl)))
kind_moves kinds.Global from f = (code_moves moving.Global from f, moves_code moving.Global from f)

-- A function of m is encoded again exactly where something that it refers to is another reference after the edit.
abbrev pub ReencodedMoves : Type 0
ReencodedMoves = (e : Edit) (m : Parts) (f : Function) → is_reencoded e m f ≡ true ↔ AnyMoves e m (held f)

pub reencoded_moves : ReencodedMoves
reencoded_moves (edits.Import i) m f = kind_moves (desc_kind i.desc) (import_place i m) f
reencoded_moves _ m f = ((λ h. absurd cc), (λ w. absurd (w.2 refl)))

-- ---- what an edit leaves

others_stay : (i : ℕ) (b : BodyOf) (fs : List Function) → all_but (Some i) (take i fs ++ first_given b (drop i fs)) ≡ all_but (Some i) fs
others_stay zero b [] = refl
others_stay zero b (f ∷ fs) = refl
others_stay (suc i) b [] = refl
others_stay (suc i) b (f ∷ fs) =
    let given = take i fs ++ first_given b (drop i fs) in
    let next : suc i + 1 ≡ suc (i + 1) = omega arith in
    ap (λ (k : ℕ). (f ∷ take i given) ++ drop k (f ∷ given)) next ∙ ap (λ (l : List Function). f ∷ l) (others_stay i b fs)
    ∙ sym (ap (λ (k : ℕ). (f ∷ take i fs) ++ drop k (f ∷ fs)) next)

-- the functions that the edit leaves of m stand in n as they are after it
abbrev Leaves : Edit → Parts → Parts → Type 0
Leaves e m n = left_in e m n ≡ map (func_after e m) (left e m)

given_leaves : (x : ℕ) (code : List ℕ) (m : Parts) (i : ℕ) → entry_of x m ≡ Some i → (b : BodyOf) → Leaves (edits.Body x code) m (settle (with_body i b m))
given_leaves x code m i is b =
    subst (λ (o : Option ℕ). all_but o (take i m.funcs ++ first_given b (drop i m.funcs)) ≡ all_but o m.funcs) (sym is) (others_stay i b m.funcs)
    ∙ sym (map-id (all_but (entry_of x m) m.funcs))

edited_leaves : (e : Edit) (m : Parts) → Gives (Leaves e m) (edited e m)
unfolding Gives
edited_leaves (edits.Ty t) m = fitting_gives (Leaves (edits.Ty t) m) (settle (with_type t m)) (sym (map-id m.funcs))
edited_leaves (edits.Import i) m =
    import_gives (Leaves (edits.Import i) m) (are_parts_stuck (desc_kind i.desc) (import_place i m) m)
    (settle (with_import i (moved_parts (desc_kind i.desc) (import_place i m) m))) refl
edited_leaves (edits.Func t code) m =
    bytes_gives (Leaves (edits.Func t code) m) (whole_at (all_body_at m.profile) code) (λ b. settle (with_func t b m))
    (λ b. take-append_seam m.funcs _ ∙ sym (map-id m.funcs))
edited_leaves (edits.Body x code) m = body_gives (Leaves (edits.Body x code) m) (entry_of x m) code m (given_leaves x code m)
edited_leaves (edits.Global t init) m =
    bytes_gives (Leaves (edits.Global t init) m) (whole_at (all_expr_at m.profile) init) (λ e. settle (with_global t e m)) (λ e. sym (map-id m.funcs))
edited_leaves (edits.Export x) m = fitting_gives (Leaves (edits.Export x) m) (settle (with_export x m)) (sym (map-id m.funcs))
edited_leaves (edits.Unexport name) m = exports_gives (Leaves (edits.Unexport name) m) (without_first name m.exports) m (λ es. sym (map-id m.funcs))
edited_leaves (edits.SetCustom name bytes) m = fitting_gives (Leaves (edits.SetCustom name bytes) m) (settle (with_custom name bytes m)) (sym (map-id m.funcs))
edited_leaves (edits.StripCustom name) m =
    customs_gives (Leaves (edits.StripCustom name) m) (list_any (is_named name) m.customs) (settle (without_customs name m)) (sym (map-id m.funcs))
edited_leaves edits.StripAll m = sym (map-id m.funcs)

given_of : (P : Parts → Type 0) (r : Result Parts EditFault) (n : Parts) → Gives P r → r ≡ Ok n → P n
unfolding Gives
given_of P r n gives is = subst (Gives P) is gives

-- The functions of n that an edit, which makes n of m, neither gives nor replaces are those of m, as they stand after it.
abbrev pub LeftMoves : Type 0
LeftMoves = (keep : Bool) (e : Edit) (m n : Parts) → made keep e m ≡ Ok n → left_in e m n ≡ map (func_after e m) (left e m)

pub left_moves : LeftMoves
left_moves keep e m n is = given_of (Leaves e m) (made keep e m) n (then_lasting (Leaves e m) keep (edited e m) (edited_leaves e m)) is
