-- What references find where one thing more comes to a module: where it comes at the end of its space, what was found is found
-- still; where an import pushes the indexes behind it on, each reference, moved, finds what it found.
use Rattle.std.proofs.Common.{◌≡◌, ℕ, zero, suc, ◌+◌, ◌<◌, ◌≤◌, nat_le, true, if◌then◌else◌, List, [], ◌∷◌, ◌++◌, length, map, Option, Some, None, refl, sym}
use Rattle.std.proofs.Common.{ap, subst, ◌∙◌, inl, inr, arith, add-one}
use Rattle.std.specs.Prelude.{slice_get}
use Rattle.std.proofs.lemmas.Bool.{cases_lt, le-leb, lt-leb, cond-true, cond-false}
use Rattle.std.proofs.lemmas.List.{append-nil, append_assoc, map_push}
use Rattle.wk_body.specs.declared.references.Ref.{Ref}
use Rattle.wk_body.specs.declared.references.Ref.TheVariants.{Ty, Func, Global, Table, Memory}
use Rattle.wk_body.specs.declared.renumber.Moving.TheVariants as moving
use Rattle.wk_body.specs.Bodies.{BodyOf}
use Rattle.wk_body.specs.References.{moved}
use Rattle.wk_body.specs.Tree.{Instrs}
use Rattle.wk_module.specs.declared.types.FuncType.{FuncType}
use Rattle.wk_module.specs.declared.types.Func.{Func as Function}
use Rattle.wk_module.specs.declared.types.GlobalDef.{GlobalDef}
use Rattle.wk_module.specs.declared.types.GlobalType.{GlobalType}
use Rattle.wk_module.specs.declared.types.Import.{Import}
use Rattle.wk_module.specs.declared.types.ImportDesc.{ImportDesc}
use Rattle.wk_module.specs.declared.types.ImportDesc.TheVariants as desc
use Rattle.wk_module.specs.declared.types.Kind.{Kind}
use Rattle.wk_module.specs.declared.types.Kind.TheVariants as kinds
use Rattle.wk_module.specs.declared.types.Limits.{Limits}
use Rattle.wk_module.specs.declared.types.Parts.{Parts}
use Rattle.wk_module.specs.Changes.{with_type, with_import, with_func, with_global}
use Rattle.wk_module.specs.Imports.{is_of_kind, import_count}
use Rattle.wk_module.specs.ImportLaws.{counts_imports}
use Rattle.wk_module.specs.MovedLaws.{types_stay, global_types_stay}
use Rattle.wk_module.specs.Moving.{moved_func, moved_global, moved_parts}
use Rattle.wk_module.specs.Shape.{lists_of}
use Rattle.wk_typing.specs.Answers.{Found}
use Rattle.wk_typing.specs.Carried.{moved_ref}
use Rattle.wk_typing.specs.Finds.{is_there, Grows}
use Rattle.wk_check.specs.Spaces.{Spaces, answer_in, spaces_of, type_found, typed_found, func_found, global_found, any_found, imported, and_more, func_in}
use Rattle.wk_check.specs.Spaces.{table_in, memory_in, global_in}

-- what references find in a module
abbrev pub answers_of : Parts → Ref → Found
answers_of m = answer_in (spaces_of (lists_of m))

-- ---- more at the end of a space

get_still : {A : Type 0} (xs ys : List A) (i : ℕ) (x : A) → slice_get xs i ≡ Some x → slice_get (xs ++ ys) i ≡ Some x
get_still [] ys i x e = absurd cc
get_still (y ∷ xs) ys zero x e = e
get_still (y ∷ xs) ys (suc i) x e = get_still xs ys i x e

-- spaces, and others that have more at their ends; a table or a memory that is there is there still
pub record HasMore (s t : Spaces) : Type 0 where
  pub types : List FuncType
  pub types_are : t.types ≡ s.types ++ types
  pub funcs : List ℕ
  pub funcs_are : t.funcs ≡ s.funcs ++ funcs
  pub tables_still : is_there (any_found s.tables) ≡ true → any_found t.tables ≡ any_found s.tables
  pub memories_still : is_there (any_found s.memories) ≡ true → any_found t.memories ≡ any_found s.memories
  pub globals : List GlobalType
  pub globals_are : t.globals ≡ s.globals ++ globals

type_still : (xs ys : List FuncType) (i : ℕ) (o : Option FuncType) → slice_get xs i ≡ o → is_there (type_found o) ≡ true
    → type_found (slice_get (xs ++ ys) i) ≡ type_found o
type_still xs ys i None e h = absurd cc
type_still xs ys i (Some t) e h = ap type_found (get_still xs ys i t e)

typed_still : (xs ys : List FuncType) (i : ℕ) (o : Option FuncType) → slice_get xs i ≡ o → is_there (typed_found o) ≡ true
    → typed_found (slice_get (xs ++ ys) i) ≡ typed_found o
typed_still xs ys i None e h = absurd cc
typed_still xs ys i (Some t) e h = ap typed_found (get_still xs ys i t e)

func_still : (types more : List FuncType) (xs ys : List ℕ) (i : ℕ) (o : Option ℕ) → slice_get xs i ≡ o → is_there (func_found types o) ≡ true
    → func_found (types ++ more) (slice_get (xs ++ ys) i) ≡ func_found types o
func_still types more xs ys i None e h = absurd cc
func_still types more xs ys i (Some t) e h =
    ap (func_found (types ++ more)) (get_still xs ys i t e) ∙ typed_still types more t (slice_get types t) refl h

global_still : (xs ys : List GlobalType) (i : ℕ) (o : Option GlobalType) → slice_get xs i ≡ o → is_there (global_found o) ≡ true
    → global_found (slice_get (xs ++ ys) i) ≡ global_found o
global_still xs ys i None e h = absurd cc
global_still xs ys i (Some g) e h = ap global_found (get_still xs ys i g e)

pub more_grows : (s t : Spaces) → HasMore s t → Grows (answer_in s) (answer_in t)
more_grows s t m (Ty x) h =
    ap (λ (ts : List FuncType). type_found (slice_get ts x)) m.types_are ∙ type_still s.types m.types x (slice_get s.types x) refl h
more_grows s t m (Func x) h =
    ap (λ (ts : List FuncType). func_found ts (slice_get t.funcs x)) m.types_are
    ∙ ap (λ (fs : List ℕ). func_found (s.types ++ m.types) (slice_get fs x)) m.funcs_are
    ∙ func_still s.types m.types s.funcs m.funcs x (slice_get s.funcs x) refl h
more_grows s t m (Global x) h =
    ap (λ (gs : List GlobalType). global_found (slice_get gs x)) m.globals_are ∙ global_still s.globals m.globals x (slice_get s.globals x) refl h
more_grows s t m Table h = m.tables_still h
more_grows s t m Memory h = m.memories_still h

-- ---- one import more

and_more-append : {X : Type 0} (o : Option X) (xs ys : List X) → and_more o (xs ++ ys) ≡ and_more o xs ++ ys
and_more-append None xs ys = refl
and_more-append (Some x) xs ys = refl

-- it comes behind those of its kind, and leaves the others
pub imported_push : {X : Type 0} (pick : ImportDesc → Option X) (is : List Import) (i : Import)
    → imported pick (is ++ i ∷ []) ≡ imported pick is ++ and_more (pick i.desc) []
imported_push pick [] i = refl
imported_push pick (x ∷ xs) i =
    ap (and_more (pick x.desc)) (imported_push pick xs i) ∙ and_more-append (pick x.desc) (imported pick xs) (and_more (pick i.desc) [])

pub imported_aside : {X : Type 0} (pick : ImportDesc → Option X) (is : List Import) (i : Import) → pick i.desc ≡ None
    → imported pick (is ++ i ∷ []) ≡ imported pick is
imported_aside {X = X} pick is i none =
    imported_push pick is i ∙ ap (λ (o : Option X). imported pick is ++ and_more o []) none ∙ append-nil (imported pick is)

pub imported_last : {X : Type 0} (pick : ImportDesc → Option X) (is : List Import) (i : Import) (x : X) → pick i.desc ≡ Some x
    → imported pick (is ++ i ∷ []) ≡ imported pick is ++ x ∷ []
imported_last {X = X} pick is i x some = imported_push pick is i ∙ ap (λ (o : Option X). imported pick is ++ and_more o []) some

module _ (kind : Kind) (from : ℕ) (i : Import) (m : Parts) where
  funcs_aside : func_in i.desc ≡ None → (spaces_of (lists_of (with_import i (moved_parts kind from m)))).funcs ≡ (spaces_of (lists_of m)).funcs
  funcs_aside none =
      ap (λ (xs : List ℕ). xs ++ map (λ (f : Function). f.ty) (map (moved_func kind from) m.funcs)) (imported_aside func_in m.imports i none)
      ∙ ap (λ (xs : List ℕ). imported func_in m.imports ++ xs) (types_stay kind from m.funcs)

  globals_aside : global_in i.desc ≡ None → (spaces_of (lists_of (with_import i (moved_parts kind from m)))).globals ≡ (spaces_of (lists_of m)).globals
  globals_aside none =
      ap (λ (xs : List GlobalType). xs ++ map (λ (g : GlobalDef). g.ty) (map (moved_global kind from) m.globals)) (imported_aside global_in m.imports i none)
      ∙ ap (λ (xs : List GlobalType). imported global_in m.imports ++ xs) (global_types_stay kind from m.globals)

  tables_aside : table_in i.desc ≡ None → (spaces_of (lists_of (with_import i (moved_parts kind from m)))).tables ≡ (spaces_of (lists_of m)).tables
  tables_aside none = ap (λ (ls : List Limits). ls ++ m.tables) (imported_aside table_in m.imports i none)

  memories_aside : memory_in i.desc ≡ None → (spaces_of (lists_of (with_import i (moved_parts kind from m)))).memories ≡ (spaces_of (lists_of m)).memories
  memories_aside none = ap (λ (ls : List Limits). ls ++ m.memories) (imported_aside memory_in m.imports i none)

-- ---- what a module with one item more finds

pub any_still : (xs zs : List Limits) (y : Limits) → is_there (any_found (xs ++ zs)) ≡ true → any_found ((xs ++ y ∷ []) ++ zs) ≡ any_found (xs ++ zs)
any_still [] [] y h = absurd cc
any_still [] (z ∷ zs) y h = refl
any_still (x ∷ xs) zs y h = refl

pub type_grows : (m : Parts) (t : FuncType) → Grows (answers_of m) (answers_of (with_type t m))
type_grows m t = more_grows (spaces_of (lists_of m)) (spaces_of (lists_of (with_type t m))) (record {
  types = t ∷ [];
  types_are = refl;
  funcs = [];
  funcs_are = sym (append-nil _);
  tables_still = λ h. refl;
  memories_still = λ h. refl;
  globals = [];
  globals_are = sym (append-nil _);
})

-- one that the module defines comes behind all others in its space
behind_all : {A B : Type 0} (front : List B) (f : A → B) (xs : List A) (y : A) → front ++ map f (xs ++ y ∷ []) ≡ (front ++ map f xs) ++ f y ∷ []
behind_all {B = B} front f xs y =
    ap (λ (ys : List B). front ++ ys) (map_push f xs y) ∙ sym (append_assoc front (map f xs) (f y ∷ []))

pub func_grows : (m : Parts) (t : ℕ) (b : BodyOf) → Grows (answers_of m) (answers_of (with_func t b m))
func_grows m t b = more_grows (spaces_of (lists_of m)) (spaces_of (lists_of (with_func t b m))) (record {
  types = [];
  types_are = sym (append-nil _);
  funcs = t ∷ [];
  funcs_are = behind_all (imported func_in m.imports) (λ (f : Function). f.ty) m.funcs (record { ty = t; body = b });
  tables_still = λ h. refl;
  memories_still = λ h. refl;
  globals = [];
  globals_are = sym (append-nil _);
})

pub global_grows : (m : Parts) (t : GlobalType) (e : Instrs) → Grows (answers_of m) (answers_of (with_global t e m))
global_grows m t e = more_grows (spaces_of (lists_of m)) (spaces_of (lists_of (with_global t e m))) (record {
  types = [];
  types_are = sym (append-nil _);
  funcs = [];
  funcs_are = sym (append-nil _);
  tables_still = λ h. refl;
  memories_still = λ h. refl;
  globals = t ∷ [];
  globals_are = behind_all (imported global_in m.imports) (λ (g : GlobalDef). g.ty) m.globals (record { ty = t; init = e });
})

pub table_import_grows : (m : Parts) (i : Import) (l : Limits) (from : ℕ) → i.desc ≡ desc.Table l
    → Grows (answers_of m) (answers_of (with_import i (moved_parts kinds.Table from m)))
table_import_grows m i l from is = more_grows (spaces_of (lists_of m)) (spaces_of (lists_of (with_import i (moved_parts kinds.Table from m)))) (record {
  types = [];
  types_are = sym (append-nil _);
  funcs = [];
  funcs_are = funcs_aside kinds.Table from i m (ap func_in is) ∙ sym (append-nil _);
  tables_still = λ h. ap (λ (ls : List Limits). any_found (ls ++ m.tables)) (imported_last table_in m.imports i l (ap table_in is))
      ∙ any_still (imported table_in m.imports) m.tables l h;
  memories_still = λ h. ap any_found (memories_aside kinds.Table from i m (ap memory_in is));
  globals = [];
  globals_are = globals_aside kinds.Table from i m (ap global_in is) ∙ sym (append-nil _);
})

pub memory_import_grows : (m : Parts) (i : Import) (l : Limits) (from : ℕ) → i.desc ≡ desc.Memory l
    → Grows (answers_of m) (answers_of (with_import i (moved_parts kinds.Memory from m)))
memory_import_grows m i l from is = more_grows (spaces_of (lists_of m)) (spaces_of (lists_of (with_import i (moved_parts kinds.Memory from m)))) (record {
  types = [];
  types_are = sym (append-nil _);
  funcs = [];
  funcs_are = funcs_aside kinds.Memory from i m (ap func_in is) ∙ sym (append-nil _);
  tables_still = λ h. ap any_found (tables_aside kinds.Memory from i m (ap table_in is));
  memories_still = λ h. ap (λ (ls : List Limits). any_found (ls ++ m.memories)) (imported_last memory_in m.imports i l (ap memory_in is))
      ∙ any_still (imported memory_in m.imports) m.memories l h;
  globals = [];
  globals_are = globals_aside kinds.Memory from i m (ap global_in is) ∙ sym (append-nil _);
})

-- ---- one more item at a seam

moved_low : (k x : ℕ) → x < k → moved k x ≡ x
moved_low k x h = cond-false (nat_le k x) (x + 1) x (lt-leb k x h)

moved_high : (k x : ℕ) → k ≤ x → moved k x ≡ x + 1
moved_high k x h = cond-true (nat_le k x) (x + 1) x (le-leb k x h)

moved_suc : (k x : ℕ) → moved (suc k) (suc x) ≡ suc (moved k x)
moved_suc k x = elim (cases_lt x k) [
  | inl h ↦ moved_low (suc k) (suc x) (omega arith) ∙ ap suc (sym (moved_low k x h))
  | inr h ↦ moved_high (suc k) (suc x) (omega arith) ∙ (omega arith ∙ ap suc (sym (moved_high k x h)))
]

-- what stood at an index stands at the moved one
pub at_moved : {A : Type 0} (xs ys : List A) (a : A) (x : ℕ) → slice_get ((xs ++ a ∷ []) ++ ys) (moved (length xs) x) ≡ slice_get (xs ++ ys) x
at_moved [] ys a x = ap (slice_get (a ∷ ys)) (moved_high 0 x (omega arith) ∙ add-one x)
at_moved (y ∷ xs) ys a zero = ap (slice_get (y ∷ ((xs ++ a ∷ []) ++ ys))) (moved_low (suc (length xs)) 0 (omega arith))
at_moved (y ∷ xs) ys a (suc x) = ap (slice_get (y ∷ ((xs ++ a ∷ []) ++ ys))) (moved_suc (length xs) x) ∙ at_moved xs ys a x

-- ---- a function or a global is imported: each reference, moved from the index of the import on, finds what it found

func_moves : (m : Parts) (i : Import) (t : ℕ) → i.desc ≡ desc.Func t → (r : Ref)
    → answers_of (with_import i (moved_parts kinds.Func (length (imported func_in m.imports)) m))
    (moved_ref moving.Func (length (imported func_in m.imports)) r) ≡ answers_of m r
func_moves m i t is (Ty x) = refl
func_moves m i t is (Func x) =
    let front = imported func_in m.imports in
    let back = map (λ (f : Function). f.ty) m.funcs in
    let from = length front in
    ap (func_found m.types) (
    ap (λ (xs : List ℕ). slice_get (xs ++ map (λ (f : Function). f.ty) (map (moved_func kinds.Func from) m.funcs)) (moved from x))
    (imported_last func_in m.imports i t (ap func_in is))
    ∙ ap (λ (xs : List ℕ). slice_get ((front ++ t ∷ []) ++ xs) (moved from x)) (types_stay kinds.Func from m.funcs)
    ∙ at_moved front back t x
    )
func_moves m i t is (Global x) =
    ap (λ (gs : List GlobalType). global_found (slice_get gs x)) (globals_aside kinds.Func (length (imported func_in m.imports)) i m (ap global_in is))
func_moves m i t is Table = ap any_found (tables_aside kinds.Func (length (imported func_in m.imports)) i m (ap table_in is))
func_moves m i t is Memory = ap any_found (memories_aside kinds.Func (length (imported func_in m.imports)) i m (ap memory_in is))

global_moves : (m : Parts) (i : Import) (g : GlobalType) → i.desc ≡ desc.Global g → (r : Ref)
    → answers_of (with_import i (moved_parts kinds.Global (length (imported global_in m.imports)) m))
    (moved_ref moving.Global (length (imported global_in m.imports)) r) ≡ answers_of m r
global_moves m i g is (Ty x) = refl
global_moves m i g is (Func x) =
    ap (λ (fs : List ℕ). func_found m.types (slice_get fs x)) (funcs_aside kinds.Global (length (imported global_in m.imports)) i m (ap func_in is))
global_moves m i g is (Global x) =
    let front = imported global_in m.imports in
    let back = map (λ (d : GlobalDef). d.ty) m.globals in
    let from = length front in
    ap global_found (
    ap (λ (xs : List GlobalType). slice_get (xs ++ map (λ (d : GlobalDef). d.ty) (map (moved_global kinds.Global from) m.globals)) (moved from x))
    (imported_last global_in m.imports i g (ap global_in is))
    ∙ ap (λ (xs : List GlobalType). slice_get ((front ++ g ∷ []) ++ xs) (moved from x)) (global_types_stay kinds.Global from m.globals)
    ∙ at_moved front back g x
    )
global_moves m i g is Table = ap any_found (tables_aside kinds.Global (length (imported global_in m.imports)) i m (ap table_in is))
global_moves m i g is Memory = ap any_found (memories_aside kinds.Global (length (imported global_in m.imports)) i m (ap memory_in is))

-- ---- the index of the import is the number of those of its kind in front of it

-- where of each import one of this kind is picked
pub counted : {X : Type 0} (kind : Kind) (pick : ImportDesc → Option X)
    → ((d : ImportDesc) (xs : List X) → length (and_more (pick d) xs) ≡ (if is_of_kind kind d then 1 else 0) + length xs) → (is : List Import)
    → length (imported pick is) ≡ import_count kind is
counted kind pick each is = counts_imports kind (λ js. length (imported pick js)) refl (λ i js. each i.desc (imported pick js)) is

count_func : (d : ImportDesc) (xs : List ℕ) → length (and_more (func_in d) xs) ≡ (if is_of_kind kinds.Func d then 1 else 0) + length xs
count_func (desc.Func x) xs = omega arith
count_func _ xs = omega arith

count_global : (d : ImportDesc) (xs : List GlobalType) → length (and_more (global_in d) xs) ≡ (if is_of_kind kinds.Global d then 1 else 0) + length xs
count_global (desc.Global g) xs = omega arith
count_global _ xs = omega arith

pub imported_funcs : (is : List Import) → length (imported func_in is) ≡ import_count kinds.Func is
imported_funcs is = counted kinds.Func func_in count_func is

pub imported_globals : (is : List Import) → length (imported global_in is) ≡ import_count kinds.Global is
imported_globals is = counted kinds.Global global_in count_global is

pub func_import_moves : (m : Parts) (i : Import) (t : ℕ) → i.desc ≡ desc.Func t → (r : Ref)
    → answers_of (with_import i (moved_parts kinds.Func (import_count kinds.Func m.imports) m))
    (moved_ref moving.Func (import_count kinds.Func m.imports) r) ≡ answers_of m r
func_import_moves m i t is r =
    subst (λ (k : ℕ). answers_of (with_import i (moved_parts kinds.Func k m)) (moved_ref moving.Func k r) ≡ answers_of m r) (imported_funcs m.imports)
    (func_moves m i t is r)

pub global_import_moves : (m : Parts) (i : Import) (g : GlobalType) → i.desc ≡ desc.Global g → (r : Ref)
    → answers_of (with_import i (moved_parts kinds.Global (import_count kinds.Global m.imports) m))
    (moved_ref moving.Global (import_count kinds.Global m.imports) r) ≡ answers_of m r
global_import_moves m i g is r =
    subst (λ (k : ℕ). answers_of (with_import i (moved_parts kinds.Global k m)) (moved_ref moving.Global k r) ≡ answers_of m r)
    (imported_globals m.imports) (global_moves m i g is r)
