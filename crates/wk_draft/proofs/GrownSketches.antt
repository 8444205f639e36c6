-- What comes to a module behind what it has, to its draft too: deferred bodies find what they found.
use Rattle.std.proofs.Common.{◌≡◌, ℕ, Bool, true, false, List, [], ◌∷◌, ◌++◌, refl, ap, ◌∙◌}
use Rattle.wk_body.specs.declared.references.Ref.{Ref}
use Rattle.wk_body.specs.declared.types.Profile.{Profile}
use Rattle.wk_body.specs.Bodies.{BodyOf}
use Rattle.wk_body.specs.References.{refs_of}
use Rattle.wk_body.specs.Tree.{Instrs}
use Rattle.wk_module.specs.declared.types.Custom.{Custom}
use Rattle.wk_module.specs.declared.types.Export.{Export}
use Rattle.wk_module.specs.declared.types.Func.{Func}
use Rattle.wk_module.specs.declared.types.FuncType.{FuncType}
use Rattle.wk_module.specs.declared.types.GlobalType.{GlobalType}
use Rattle.wk_module.specs.declared.types.Parts.{Parts}
use Rattle.wk_module.specs.Changes.{with_type, with_func, with_global, with_export}
use Rattle.wk_typing.specs.declared.fault.BodyVerdict.TheVariants.{Valid}
use Rattle.wk_typing.specs.Answers.{Found}
use Rattle.wk_typing.specs.Carried.{Agree, Keeps}
use Rattle.wk_typing.specs.Finds.{AreThere, ValidFinds, Grows}
use Rattle.wk_check.specs.SpacesLaws.{answers_of, type_grows, func_grows, global_grows}
use Rattle.wk_check.specs.Verdict.{func_verdict}
use Rattle.wk_draft.specs.Drafts.{IsDeferred, AreDrafted, IsDraft}
use Rattle.wk_body.specs.declared.shifts.Shifts.{Shifts}
use Rattle.wk_draft.proofs.Sketches.{still_draft}

-- what is there is found as it was
all_still : (A B : Ref → Found) → Grows A B → (rs : List Ref) → AreThere A rs → Agree A B rs
all_still A B grows [] there = tt
all_still A B grows (r ∷ rs) there = (grows r there.0, all_still A B grows rs there.1)

-- one more function behind the others, in both
drafted_push : (profile : Profile) (A : Ref → Found) (s : Shifts) (x : Func) (os : List Func) (deferred : List Bool) (fs gs : List Func)
    → AreDrafted profile A s os deferred fs gs
    → AreDrafted profile A s os deferred (fs ++ x ∷ []) (gs ++ x ∷ [])
drafted_push profile A s x [] [] fs gs h = ap (λ (hs : List Func). hs ++ x ∷ []) h
drafted_push profile A s x (o ∷ os) (true ∷ deferred) (f ∷ fs) (g ∷ gs) h = (h.0, drafted_push profile A s x os deferred fs gs h.1)
drafted_push profile A s x (o ∷ os) (false ∷ deferred) (f ∷ fs) (g ∷ gs) h = (h.0, drafted_push profile A s x os deferred fs gs h.1)
drafted_push profile A s x _ _ _ _ h = absurd h

-- ---- where what was there is found as it was

-- by the laws of verdicts
module _ (keeps : Keeps) (finds : ValidFinds) where
  pub still_valid : (A B : Ref → Found) → Grows A B → (f : Func) → func_verdict A f ≡ Valid → func_verdict B f ≡ Valid
  still_valid A B grows f valid =
      let there = finds A f.ty f.body valid in
      keeps A B f.ty f.ty f.body (grows _ there.0) (all_still A B grows (refs_of f.body.instrs) there.1) ∙ valid

  module _ (profile : Profile) (A B : Ref → Found) (grows : Grows A B) (s : Shifts) where
    deferred_still : (o f g : Func) → IsDeferred profile A s o f g → IsDeferred profile B s o f g
    deferred_still o f g h = record {
      is = h.is;
      stands = h.stands;
      code = h.code;
      valid = still_valid A B grows f h.valid;
      stub_valid = still_valid A B grows g h.stub_valid;
    }

    drafted_still : (os : List Func) (deferred : List Bool) (fs gs : List Func) → AreDrafted profile A s os deferred fs gs
        → AreDrafted profile B s os deferred fs gs
    drafted_still [] [] fs gs h = h
    drafted_still (o ∷ os) (true ∷ deferred) (f ∷ fs) (g ∷ gs) h = (deferred_still o f g h.0, drafted_still os deferred fs gs h.1)
    drafted_still (o ∷ os) (false ∷ deferred) (f ∷ fs) (g ∷ gs) h = (h.0, drafted_still os deferred fs gs h.1)
    drafted_still _ _ _ _ h = absurd h

  module _ (s : Shifts) (os : List Func) (deferred : List Bool) (m d : Parts) (h : IsDraft s os deferred m d) where
    -- all functions, by what references find in n
    all_still_drafted : (n : Parts) → Grows (answers_of m) (answers_of n) → AreDrafted m.profile (answers_of n) s os deferred m.funcs d.funcs
    all_still_drafted n grows = drafted_still m.profile (answers_of m) (answers_of n) grows s os deferred m.funcs d.funcs h.sketch.funcs

    pub type_sketch : (t : FuncType) → IsDraft s os deferred (with_type t m) (with_type t d)
    type_sketch t =
        still_draft s os deferred deferred m d (with_type t m) (with_type t d) refl h
        (record { rest = ap (with_type t) h.sketch.rest; funcs = all_still_drafted (with_type t m) (type_grows m t) })

    pub func_sketch : (t : ℕ) (b : BodyOf) → IsDraft s os deferred (with_func t b m) (with_func t b d)
    func_sketch t b =
        let n = with_func t b m in
        still_draft s os deferred deferred m d n (with_func t b d) refl h (record {
          rest = ap (with_func t b) h.sketch.rest;
          funcs = drafted_push m.profile (answers_of n) s (record { ty = t; body = b }) os deferred m.funcs d.funcs (all_still_drafted n (func_grows m t b));
        })

    pub global_sketch : (t : GlobalType) (e : Instrs) → IsDraft s os deferred (with_global t e m) (with_global t e d)
    global_sketch t e =
        still_draft s os deferred deferred m d (with_global t e m) (with_global t e d) refl h
        (record { rest = ap (with_global t e) h.sketch.rest; funcs = all_still_drafted (with_global t e m) (global_grows m t e) })

-- ---- what no reference finds

module _ (s : Shifts) (os : List Func) (deferred : List Bool) (m d : Parts) (h : IsDraft s os deferred m d) where
  pub export_sketch : (e : Export) → IsDraft s os deferred (with_export e m) (with_export e d)
  export_sketch e =
      still_draft s os deferred deferred m d (with_export e m) (with_export e d) refl h
      (record { rest = ap (with_export e) h.sketch.rest; funcs = h.sketch.funcs })

  pub exports_sketch : (es : List Export) → IsDraft s os deferred (record m { exports = es }) (record d { exports = es })
  exports_sketch es =
      still_draft s os deferred deferred m d (record m { exports = es }) (record d { exports = es }) refl h
      (record { rest = ap (λ (p : Parts). record p { exports = es }) h.sketch.rest; funcs = h.sketch.funcs })

  -- other customs, by a change of those that are there
  pub customs_sketch : (change : List Custom → List Custom) → IsDraft s os deferred (record m { customs = change m.customs })
      (record d { customs = change d.customs })
  customs_sketch change =
      still_draft s os deferred deferred m d (record m { customs = change m.customs }) (record d { customs = change d.customs }) refl h
      (record { rest = ap (λ (p : Parts). record p { customs = change p.customs }) h.sketch.rest; funcs = h.sketch.funcs })
