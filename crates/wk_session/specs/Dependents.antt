-- Which code entries and sections depend on an edit, so that they have to be judged or encoded again.
use Rattle.std.specs.Prelude.{ℕ, ◌+◌, Bool, true, false, not, ◌&&◌, Option, Some, None, List, ◌∷◌, ◌++◌, take, drop, count_by}
use Rattle.std.specs.List.{list_any}
use Rattle.wk_body.specs.declared.renumber.Moving.TheVariants as moving
use Rattle.wk_body.specs.declared.references.Ref.{Ref}
use Rattle.wk_body.specs.declared.references.Ref.TheVariants as refs
use Rattle.wk_body.specs.References.{refs_of}
use Rattle.wk_module.specs.declared.types.FuncType.{FuncType}
use Rattle.wk_module.specs.declared.types.GlobalType.{GlobalType}
use Rattle.wk_module.specs.declared.types.Kind.{Kind}
use Rattle.wk_module.specs.declared.types.Kind.TheVariants.{Func, Global}
use Rattle.wk_module.specs.declared.types.Func.{Func as Function}
use Rattle.wk_module.specs.declared.types.Parts.{Parts}
use Rattle.wk_module.specs.Items.{desc_kind}
use Rattle.wk_module.specs.Moving.{is_code_moving, is_expr_moving, is_index_moving, is_start_moving, is_elem_moving, is_data_moving}
use Rattle.wk_typing.specs.Answers.{Found, TypeIs, NoType, FuncIs, FuncOfNoType, NoFunc, GlobalIs, NoGlobal, IsPresent, IsAbsent}
use Rattle.wk_typing.specs.Carried.{moved_ref}
use Rattle.wk_typing.specs.Effects.{same_types}
use Rattle.wk_typing.specs.Slots.{same}
use Rattle.wk_check.specs.SpacesLaws.{answers_of}
use Rattle.wk_session.specs.declared.edit.Edit.{Edit}
use Rattle.wk_session.specs.declared.edit.Edit.TheVariants as edits
use Rattle.wk_session.specs.declared.edit.Work.{Work}
use Rattle.wk_session.specs.Edits.{import_place, entry_of}

-- ---- what references find

abbrev pub same_bool : Bool → Bool → Bool
same_bool true b = b
same_bool false b = not b

abbrev pub same_functype : FuncType → FuncType → Bool
same_functype a b = same_types a.params b.params && same_types a.results b.results

abbrev pub same_globaltype : GlobalType → GlobalType → Bool
same_globaltype a b = same a.val b.val && same_bool a.mutable b.mutable

-- whether two references find the same (`SameFound` in the proofs says that it is just that)
abbrev pub same_found : Found → Found → Bool
same_found (TypeIs a) (TypeIs b) = same_functype a b
same_found NoType NoType = true
same_found (FuncIs a) (FuncIs b) = same_functype a b
same_found FuncOfNoType FuncOfNoType = true
same_found NoFunc NoFunc = true
same_found (GlobalIs a) (GlobalIs b) = same_globaltype a b
same_found NoGlobal NoGlobal = true
same_found IsPresent IsPresent = true
same_found IsAbsent IsAbsent = true
same_found _ _ = false

-- whether a reference finds another thing now than before
abbrev pub differs_in : (Ref → Found) → (Ref → Found) → Ref → Bool
differs_in before now r = not (same_found (before r) (now r))

-- ---- references, before and after

-- what a function refers to: its own type, and what its body refers to
abbrev pub held : Function → List Ref
held f = refs.Ty f.ty ∷ refs_of f.body.instrs

-- whether something that a function refers to is found to be another thing
abbrev pub is_retyped_in : (Ref → Found) → (Ref → Found) → Function → Bool
is_retyped_in before now f = list_any (differs_in before now) (held f)

-- a reference after an import of a kind at the index `from`
abbrev pub ref_moved : Kind → ℕ → Ref → Ref
ref_moved Func from r = moved_ref moving.Func from r
ref_moved Global from r = moved_ref moving.Global from r
ref_moved _ from r = r

-- a reference of the module as it stands after the edit
abbrev pub ref_after : Edit → Parts → Ref → Ref
ref_after (edits.Import i) m r = ref_moved (desc_kind i.desc) (import_place i m) r
ref_after _ m r = r

-- what a reference of m finds in n, where it stands as it does after the edit
abbrev pub answers_after : Edit → Parts → Parts → Ref → Found
answers_after e m n r = answers_of n (ref_after e m r)

-- ---- code entries

-- how many code entries the edit gives or replaces
abbrev pub given : Edit → ℕ
given (edits.Func t code) = 1
given (edits.Body x code) = 1
given _ = 0

abbrev pub all_but : Option ℕ → List Function → List Function
all_but None fs = fs
all_but (Some entry) fs = take entry fs ++ drop (entry + 1) fs

-- the functions of the module that it does not replace
abbrev pub left : Edit → Parts → List Function
left (edits.Body x code) m = all_but (entry_of x m) m.funcs
left _ m = m.funcs

-- whether something that a function of m refers to is found in n to be another thing than in m
abbrev pub is_retyped : Edit → Parts → Parts → Function → Bool
is_retyped e m n f = is_retyped_in (answers_of m) (answers_after e m n) f

-- whether something that a function's body refers to moves
abbrev pub is_reencoded : Edit → Parts → Function → Bool
is_reencoded (edits.Import i) m f = is_code_moving (desc_kind i.desc) (import_place i m) f.body.instrs
is_reencoded _ m f = false

-- ---- sections, but for that of the codes, and custom sections

abbrev pub one_if : Bool → ℕ
one_if true = 1
one_if false = 0

-- how many sections, but for that of the codes, hold something that moves
abbrev pub sections_moving : Kind → ℕ → Parts → ℕ
sections_moving kind from m =
    one_if (list_any (λ g. is_expr_moving kind from g.init) m.globals)
    + one_if (list_any (λ e. is_index_moving kind from e.kind e.index) m.exports)
    + one_if (is_start_moving kind from m.start)
    + one_if (list_any (is_elem_moving kind from) m.elems)
    + one_if (list_any (is_data_moving kind from) m.datas)

-- how many sections change
abbrev pub sections_made : Edit → Parts → ℕ
sections_made (edits.Ty t) m = 1
sections_made (edits.Import i) m = 1 + sections_moving (desc_kind i.desc) (import_place i m) m
sections_made (edits.Func t code) m = 1
sections_made (edits.Body x code) m = 0
sections_made (edits.Global t init) m = 1
sections_made (edits.Export e) m = 1
sections_made (edits.Unexport name) m = 1
sections_made (edits.SetCustom name bytes) m = 1
sections_made (edits.StripCustom name) m = 0
sections_made edits.StripAll m = 0

-- ---- work

-- what an accepted edit takes, which makes n of m
abbrev pub work_of : Edit → Parts → Parts → Work
work_of e m n = record {
  typed = given e + count_by (is_retyped e m n) (left e m);
  encoded = given e + count_by (is_reencoded e m) (left e m);
  sections = sections_made e m;
}
