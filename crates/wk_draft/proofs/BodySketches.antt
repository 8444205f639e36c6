-- A function of a module that is given another body, in the module and in its draft.
use Rattle.std.proofs.Common.{◌≡◌, ℕ, zero, suc, ◌-◌, Bool, true, false, if◌then◌else◌, Option, Some, None, List, [], ◌∷◌, ◌++◌, set, refl, sym, ap, subst, ◌∙◌}
use Rattle.std.specs.Prelude.{nat_le, nat_lt, ◌&&◌}
use Rattle.wk_body.specs.Bodies.{BodyOf}
use Rattle.wk_body.specs.declared.references.Ref.{Ref}
use Rattle.wk_body.specs.declared.types.Profile.{Profile}
use Rattle.wk_module.specs.declared.types.Func.{Func}
use Rattle.wk_module.specs.declared.types.Kind.TheVariants as kinds
use Rattle.wk_module.specs.declared.types.Parts.{Parts}
use Rattle.wk_module.specs.Changes.{with_body}
use Rattle.wk_module.specs.ChangeLaws.{funcs_given, types_given}
use Rattle.wk_module.specs.Imports.{import_count}
use Rattle.wk_module.specs.Shape.{lists_of}
use Rattle.wk_typing.specs.Answers.{Found}
use Rattle.wk_check.specs.Spaces.{answer_in, spaces_of, imported, func_in}
use Rattle.wk_check.specs.SpacesLaws.{answers_of}
use Rattle.wk_session.specs.Edits.{entry_of}
use Rattle.wk_draft.specs.Drafts.{AreDrafted, IsSketch, IsDraft}
use Rattle.wk_body.specs.declared.shifts.Shifts.{Shifts}
use Rattle.wk_draft.specs.Steps.{deferred_without}
use Rattle.wk_draft.proofs.Sketches.{still_draft}
use Rattle.wk_draft.proofs.SketchTypes.{same_count}

-- an index is that of the same function
pub entry_same : (s : Shifts) (os : List Func) (deferred : List Bool) (x : ℕ) (m d : Parts) → IsSketch s os deferred m d → entry_of x m ≡ entry_of x d
entry_same s os deferred x m d h =
    let k = import_count kinds.Func m.imports in
    sym (
    ap (entry_of x) h.rest
    ∙ ap {B = Option ℕ} (λ (n : ℕ). if nat_le k x && nat_lt (x - k) n then Some (x - k) else None) (same_count s os deferred m d h)
    )

-- the function is deferred no more
drafted_given : (profile : Profile) (A : Ref → Found) (s : Shifts) (b : BodyOf) (i : ℕ) (os : List Func) (deferred : List Bool) (fs gs : List Func)
    → AreDrafted profile A s os deferred fs gs
    → AreDrafted profile A s os (set deferred i false) (funcs_given i b fs) (funcs_given i b gs)
drafted_given profile A s b i [] [] fs gs h = ap (funcs_given i b) h
drafted_given profile A s b zero (o ∷ os) (true ∷ deferred) (f ∷ fs) (g ∷ gs) h = (ap (λ (x : Func). record x { body = b }) (sym h.0.stands), h.1)
drafted_given profile A s b zero (o ∷ os) (false ∷ deferred) (f ∷ fs) (g ∷ gs) h = (ap (λ (x : Func). record x { body = b }) h.0, h.1)
drafted_given profile A s b (suc i) (o ∷ os) (true ∷ deferred) (f ∷ fs) (g ∷ gs) h = (h.0, drafted_given profile A s b i os deferred fs gs h.1)
drafted_given profile A s b (suc i) (o ∷ os) (false ∷ deferred) (f ∷ fs) (g ∷ gs) h = (h.0, drafted_given profile A s b i os deferred fs gs h.1)
drafted_given profile A s b i _ _ _ _ h = absurd h

-- what references find is as it was
answers_given : (i : ℕ) (b : BodyOf) (m : Parts) → answers_of (with_body i b m) ≡ answers_of m
answers_given i b m =
    ap (λ (ts : List ℕ). answer_in (record (spaces_of (lists_of m)) { funcs = imported func_in m.imports ++ ts })) (types_given i b m.funcs)

sketch_given : (s : Shifts) (os : List Func) (deferred : List Bool) (i : ℕ) (b : BodyOf) (m d : Parts) → IsSketch s os deferred m d
    → IsSketch s os (deferred_without (Some i) deferred) (with_body i b m) (with_body i b d)
sketch_given s os deferred i b m d h = record {
  rest = ap (with_body i b) h.rest;
  funcs = subst (λ (A : Ref → Found). AreDrafted m.profile A s os (set deferred i false) (funcs_given i b m.funcs) (funcs_given i b d.funcs))
      (sym (answers_given i b m)) (drafted_given m.profile (answers_of m) s b i os deferred m.funcs d.funcs h.funcs);
}

-- A function with another body, whether its old one was deferred or not. Where none has the entry, nothing changes.
pub body_sketch : (s : Shifts) (os : List Func) (deferred : List Bool) (i : ℕ) (b : BodyOf) (m d : Parts) → IsDraft s os deferred m d
    → IsDraft s os (deferred_without (Some i) deferred) (with_body i b m) (with_body i b d)
body_sketch s os deferred i b m d h =
    still_draft s os deferred (deferred_without (Some i) deferred) m d (with_body i b m) (with_body i b d) refl h (sketch_given s os deferred i b m d h.sketch)
