-- Where nothing moves past the greatest index: what a valid body refers to is there, and stands below it in a module that fits.
use Rattle.std.proofs.Common.{◌≡◌, ℕ, ◌<◌, ◌≤◌, Bool, true, false, List, [], ◌∷◌, length, map, Option, Some, None, refl, sym, ap, ◌∙◌, arith, length-append}
use Rattle.std.specs.Prelude.{◌||◌, ◌&&◌, nat_le, slice_get}
use Rattle.std.specs.List.{list_any}
use Rattle.std.proofs.Math.Bool.{and-false}
use Rattle.std.proofs.lemmas.Bool.{ne_eqb}
use Rattle.std.proofs.lemmas.List.{length-map}
use Rattle.std.proofs.lemmas.Option.{slice_get_within}
use Rattle.wk_body.specs.declared.renumber.Moving.{Moving}
use Rattle.wk_body.specs.declared.renumber.Moving.TheVariants as moving
use Rattle.wk_body.specs.declared.references.Ref.{Ref}
use Rattle.wk_body.specs.declared.references.Ref.TheVariants as refs
use Rattle.wk_body.specs.declared.types.Profile.{Profile}
use Rattle.wk_body.specs.References.{refs_of, greatest, is_stuck_at, is_stuck, any_stuck}
use Rattle.wk_module.specs.declared.types.Func.{Func}
use Rattle.wk_module.specs.declared.types.FuncType.{FuncType}
use Rattle.wk_module.specs.declared.types.GlobalDef.{GlobalDef}
use Rattle.wk_module.specs.declared.types.GlobalType.{GlobalType}
use Rattle.wk_module.specs.declared.types.Import.{Import}
use Rattle.wk_module.specs.declared.types.Kind.{Kind}
use Rattle.wk_module.specs.declared.types.Kind.TheVariants as kinds
use Rattle.wk_module.specs.declared.types.Parts.{Parts}
use Rattle.wk_module.specs.ImportLaws.{import_count_le}
use Rattle.wk_module.specs.Items.{desc_kind}
use Rattle.wk_module.specs.Moving.{is_code_stuck, are_lists_stuck, are_parts_stuck}
use Rattle.wk_module.specs.Sections.{ImportSection, FunctionSection, GlobalSection}
use Rattle.wk_module.specs.Shape.{lists_of}
use Rattle.wk_module.specs.Writing.{Fits}
use Rattle.wk_module.specs.WritingLaws.{items_within}
use Rattle.wk_typing.specs.Finds.{is_there, AreThere, ValidFinds}
use Rattle.wk_check.specs.Spaces.{Spaces, answer_in, spaces_of, func_found, global_found, imported, func_in, global_in}
use Rattle.wk_check.specs.SpacesLaws.{imported_funcs, imported_globals}
use Rattle.wk_session.specs.Edits.{import_place}
use Rattle.wk_draft.specs.Drafts.{IsDeferred, AreDrafted, IsDraft}
use Rattle.wk_module.specs.Outlines.{stub}
use Rattle.wk_body.specs.declared.shifts.Shifts.{Shifts}
use Rattle.wk_draft.proofs.SketchTypes.{place_same}

-- ---- what is there stands below the greatest index

below_free : (from x : ℕ) → x < greatest → is_stuck_at from x ≡ false
below_free from x below = ap (λ (b : Bool). nat_le from x && b) (ne_eqb x greatest (omega arith)) ∙ and-false (nat_le from x)

func_there : (types : List FuncType) (funcs : List ℕ) (x : ℕ) (o : Option ℕ) → slice_get funcs x ≡ o → is_there (func_found types o) ≡ true → x < length funcs
func_there types funcs x None at there = absurd cc
func_there types funcs x (Some t) at there = slice_get_within funcs x t at

global_there : (globals : List GlobalType) (x : ℕ) (o : Option GlobalType) → slice_get globals x ≡ o → is_there (global_found o) ≡ true → x < length globals
global_there globals x None at there = absurd cc
global_there globals x (Some g) at there = slice_get_within globals x g at

-- spaces in which nothing stands at the greatest index
record AreSmall (s : Spaces) : Type 0 where
  funcs : length s.funcs ≤ greatest
  globals : length s.globals ≤ greatest

module _ (s : Spaces) (small : AreSmall s) where
  ref_free : (kind : Moving) (from : ℕ) (r : Ref) → is_there (answer_in s r) ≡ true → is_stuck kind from r ≡ false
  ref_free moving.Func from (refs.Func x) there =
      below_free from x (omega (arith, small.funcs, func_there s.types s.funcs x (slice_get s.funcs x) refl there))
  ref_free moving.Global from (refs.Global x) there =
      below_free from x (omega (arith, small.globals, global_there s.globals x (slice_get s.globals x) refl there))
  ref_free kind from r there = refl

  refs_free : (kind : Moving) (from : ℕ) (rs : List Ref) → AreThere (answer_in s) rs → any_stuck kind from rs ≡ false
  refs_free kind from [] there = refl
  refs_free kind from (r ∷ rs) there = rw (ref_free kind from r there.0) (refs_free kind from rs there.1)

  code_free : (kind : Kind) (from : ℕ) (f : Func) → AreThere (answer_in s) (refs_of f.body.instrs) → is_code_stuck kind from f.body.instrs ≡ false
  code_free kinds.Func from f there = refs_free moving.Func from (refs_of f.body.instrs) there
  code_free kinds.Table from f there = refl
  code_free kinds.Memory from f there = refl
  code_free kinds.Global from f there = refs_free moving.Global from (refs_of f.body.instrs) there

-- ---- a module that fits has less items of a kind than there are indexes

spaces_small : (m : Parts) → Fits m → AreSmall (spaces_of (lists_of m))
spaces_small m fits =
    let imports = items_within m ImportSection in
    record {
      funcs = omega (
        arith,
        fits,
        imports,
        items_within m FunctionSection,
        length-append (imported func_in m.imports) (map (λ (f : Func). f.ty) m.funcs),
        imported_funcs m.imports,
        import_count_le kinds.Func m.imports,
      );
      globals = omega (
        arith,
        fits,
        imports,
        items_within m GlobalSection,
        length-append (imported global_in m.imports) (map (λ (g : GlobalDef). g.ty) m.globals),
        length-map m.globals (λ (g : GlobalDef). g.ty),
        imported_globals m.imports,
        import_count_le kinds.Global m.imports,
      );
    }

-- ---- a module and its draft are stuck alike

stub_free : (kind : Kind) (from : ℕ) → is_code_stuck kind from stub.instrs ≡ false
stub_free kinds.Func from = refl
stub_free kinds.Table from = refl
stub_free kinds.Memory from = refl
stub_free kinds.Global from = refl

abbrev is_func_stuck : Kind → ℕ → Func → Bool
is_func_stuck kind from f = is_code_stuck kind from f.body.instrs

-- where all that a valid body refers to is there
module _ (finds : ValidFinds) where
  module _ (profile : Profile) (spaces : Spaces) (small : AreSmall spaces) (s : Shifts) (kind : Kind) (from : ℕ) where
    deferred_free : (o f g : Func) → IsDeferred profile (answer_in spaces) s o f g → is_func_stuck kind from f ≡ is_func_stuck kind from g
    deferred_free o f g h =
        code_free spaces small kind from f (finds (answer_in spaces) f.ty f.body h.valid).1
        ∙ sym (ap (is_func_stuck kind from) h.stands ∙ stub_free kind from)

    funcs_stuck : (os : List Func) (deferred : List Bool) (fs gs : List Func) → AreDrafted profile (answer_in spaces) s os deferred fs gs
        → list_any (is_func_stuck kind from) fs ≡ list_any (is_func_stuck kind from) gs
    funcs_stuck [] [] fs gs h = ap (list_any (is_func_stuck kind from)) h
    funcs_stuck (o ∷ os) (true ∷ deferred) (f ∷ fs) (g ∷ gs) h = rw (deferred_free o f g h.0, funcs_stuck os deferred fs gs h.1) refl
    funcs_stuck (o ∷ os) (false ∷ deferred) (f ∷ fs) (g ∷ gs) h = rw (ap (is_func_stuck kind from) h.0, funcs_stuck os deferred fs gs h.1) refl
    funcs_stuck _ _ _ _ h = absurd h

  -- as an import of the kind comes in front of the index `from`
  pub import_stuck : (s : Shifts) (os : List Func) (deferred : List Bool) (m d : Parts) (kind : Kind) (from : ℕ) → IsDraft s os deferred m d → Fits m
      → are_parts_stuck kind from m ≡ are_parts_stuck kind from d
  import_stuck s os deferred m d kind from h fits =
      let funcs = funcs_stuck m.profile (spaces_of (lists_of m)) (spaces_small m fits) s kind from os deferred m.funcs d.funcs h.sketch.funcs in
      let lists = ap (are_lists_stuck kind from) h.sketch.rest in
      ap (λ (b : Bool). b || are_lists_stuck kind from m) funcs ∙ ap (λ (b : Bool). list_any (is_func_stuck kind from) d.funcs || b) (sym lists)

  -- ... at its place in each
  pub import_stuck_alike : (s : Shifts) (os : List Func) (deferred : List Bool) (i : Import) (m d : Parts) → IsDraft s os deferred m d → Fits m
      → are_parts_stuck (desc_kind i.desc) (import_place i m) m ≡ are_parts_stuck (desc_kind i.desc) (import_place i d) d
  import_stuck_alike s os deferred i m d h fits =
      import_stuck s os deferred m d (desc_kind i.desc) (import_place i m) h fits
      ∙ ap (λ (from : ℕ). are_parts_stuck (desc_kind i.desc) from d) (place_same s os deferred m d h.sketch i)
