-- An import that comes to a module and to its draft.
use Rattle.std.proofs.Common.{◌≡◌, ℕ, ◌+◌, Bool, true, false, List, [], ◌∷◌, map, refl, ap, subst, ◌∙◌, arith}
use Rattle.std.specs.List.{AllByRecursion}
use Rattle.wk_body.specs.declared.renumber.Moving.{Moving}
use Rattle.wk_body.specs.declared.renumber.Moving.TheVariants as moving
use Rattle.wk_body.specs.declared.references.Ref.{Ref}
use Rattle.wk_body.specs.declared.types.Profile.{Profile}
use Rattle.wk_body.specs.References.{refs_of, map_plain}
use Rattle.wk_body.specs.Tree.{Instrs}
use Rattle.wk_module.specs.declared.types.Func.{Func}
use Rattle.wk_module.specs.declared.types.Import.{Import}
use Rattle.wk_module.specs.declared.types.ImportDesc.{ImportDesc}
use Rattle.wk_module.specs.declared.types.ImportDesc.TheVariants as desc
use Rattle.wk_module.specs.declared.types.Kind.{Kind}
use Rattle.wk_module.specs.declared.types.Kind.TheVariants as kinds
use Rattle.wk_module.specs.declared.types.Parts.{Parts}
use Rattle.wk_module.specs.Changes.{with_import}
use Rattle.wk_module.specs.Imports.{import_count}
use Rattle.wk_module.specs.ImportLaws.{import_count_push}
use Rattle.wk_module.specs.Items.{desc_kind, IsCode}
use Rattle.wk_module.specs.Moving.{moved_code, moved_func, moved_parts, are_parts_stuck}
use Rattle.wk_module.specs.Sections.{CodeSection}
use Rattle.wk_module.specs.Shape.{IsFormed}
use Rattle.wk_typing.specs.declared.fault.BodyVerdict.TheVariants.{Valid}
use Rattle.wk_typing.specs.Answers.{Found}
use Rattle.wk_typing.specs.Carried.{moved_ref, AgreeMoved, Keeps, KeepsMoved}
use Rattle.wk_typing.specs.Finds.{ValidFinds}
use Rattle.wk_check.specs.SpacesLaws.{answers_of, func_import_moves, global_import_moves, table_import_grows, memory_import_grows}
use Rattle.wk_check.specs.Verdict.{func_verdict}
use Rattle.wk_session.specs.declared.edit.Edit.TheVariants as edits
use Rattle.wk_session.specs.Edits.{import_place}
use Rattle.wk_session.specs.Imported.{after_import}
use Rattle.wk_draft.specs.Drafts.{IsDeferred, AreDrafted, IsDraft}
use Rattle.wk_body.specs.declared.shifts.Shifts.{Shifts}
use Rattle.wk_body.specs.Shifts.{shifted_plain}
use Rattle.wk_draft.specs.Steps.{one_more, shifts_after}
use Rattle.wk_draft.proofs.GrownSketches.{still_valid}
use Rattle.wk_draft.proofs.SketchTypes.{place_same}
use Rattle.wk_draft.proofs.ShiftedBodies.{func_shifts_more, global_shifts_more, stub_stays}

-- ---- all functions of a module, moved

module _ (profile : Profile) (kind : Kind) (from : ℕ) (A B : Ref → Found) (s t : Shifts)
    (shifts : (is : Instrs) → moved_code kind from (map_plain (shifted_plain s) is) ≡ map_plain (shifted_plain t) is)
    (valid : (f : Func) → func_verdict A f ≡ Valid → func_verdict B (moved_func kind from f) ≡ Valid) where
  deferred_moved : (o f g : Func) → IsCode profile (moved_func kind from f).body → IsDeferred profile A s o f g
      → IsDeferred profile B t o (moved_func kind from f) (moved_func kind from g)
  deferred_moved o f g code h = record {
    is =
        ap (moved_func kind from) h.is
        ∙ ap (λ (is : Instrs). record o { body = record { groups = o.body.groups; instrs = is } }) (shifts o.body.instrs);
    stands =
        ap (moved_func kind from) h.stands
        ∙ ap (λ (is : Instrs). record f { body = record { groups = []; instrs = is } }) (stub_stays kind from);
    code = code;
    valid = valid f h.valid;
    stub_valid = valid g h.stub_valid;
  }

  drafted_moved : (os : List Func) (deferred : List Bool) (fs gs : List Func)
      → AllByRecursion (IsCode profile) (map (λ (f : Func). f.body) (map (moved_func kind from) fs)) → AreDrafted profile A s os deferred fs gs
      → AreDrafted profile B t os deferred (map (moved_func kind from) fs) (map (moved_func kind from) gs)
  drafted_moved [] [] fs gs codes h = ap (map (moved_func kind from)) h
  drafted_moved (o ∷ os) (true ∷ deferred) (f ∷ fs) (g ∷ gs) codes h = (deferred_moved o f g codes.0 h.0, drafted_moved os deferred fs gs codes.1 h.1)
  drafted_moved (o ∷ os) (false ∷ deferred) (f ∷ fs) (g ∷ gs) codes h = (ap (moved_func kind from) h.0, drafted_moved os deferred fs gs codes.1 h.1)
  drafted_moved _ _ _ _ codes h = absurd h

-- ---- what an import leaves of bodies

-- by where their references stood before it
record IsLeaving (i : Import) (s : Shifts) (m : Parts) : Type 0 where
  shifts : (is : Instrs) → moved_code (desc_kind i.desc) (import_place i m) (map_plain (shifted_plain s) is)
      ≡ map_plain (shifted_plain (one_more (desc_kind i.desc) s)) is
  valid : (f : Func) → func_verdict (answers_of m) f ≡ Valid
      → func_verdict (answers_of (after_import i m)) (moved_func (desc_kind i.desc) (import_place i m) f) ≡ Valid
  funcs_from : import_count kinds.Func (after_import i m).imports ≡ (one_more (desc_kind i.desc) s).funcs_from + (one_more (desc_kind i.desc) s).funcs_by
  globals_from : import_count kinds.Global (after_import i m).imports
      ≡ (one_more (desc_kind i.desc) s).globals_from + (one_more (desc_kind i.desc) s).globals_by

-- each reference, moved, finds what it found
all_moved : (kind : Moving) (from : ℕ) (A B : Ref → Found) → ((r : Ref) → B (moved_ref kind from r) ≡ A r) → (rs : List Ref) → AgreeMoved kind from A B rs
all_moved kind from A B each [] = tt
all_moved kind from A B each (r ∷ rs) = (each r, all_moved kind from A B each rs)

-- by the laws of verdicts
module _ (keeps : Keeps) (keeps_moved : KeepsMoved) (finds : ValidFinds) where
  -- the import with this in the place of what is imported
  abbrev with_desc : Import → ImportDesc → Import
  with_desc i d = record i { desc = d }

  leaves : (i : Import) (d : ImportDesc) (s : Shifts) (m : Parts) → import_count kinds.Func m.imports ≡ s.funcs_from + s.funcs_by
      → import_count kinds.Global m.imports ≡ s.globals_from + s.globals_by → IsLeaving (with_desc i d) s m
  leaves i (desc.Func t) s m funcs globals =
      let j = with_desc i (desc.Func t) in
      record {
        shifts = λ is. func_shifts_more s (import_count kinds.Func m.imports) is funcs;
        valid = λ f valid. keeps_moved moving.Func (import_count kinds.Func m.imports) (answers_of m)
            (answers_of (after_import j m)) f.ty f.ty f.body refl
            (all_moved moving.Func (import_count kinds.Func m.imports) (answers_of m) (answers_of (after_import j m)) (func_import_moves m j t refl)
            (refs_of f.body.instrs)) ∙ valid;
        funcs_from = omega (arith, funcs, import_count_push kinds.Func m.imports j);
        globals_from = omega (arith, globals, import_count_push kinds.Global m.imports j);
      }
  leaves i (desc.Table l) s m funcs globals =
      let j = with_desc i (desc.Table l) in
      record {
        shifts = λ is. refl;
        valid = still_valid keeps finds (answers_of m) (answers_of (after_import j m)) (table_import_grows m j l (import_count kinds.Table m.imports) refl);
        funcs_from = omega (arith, funcs, import_count_push kinds.Func m.imports j);
        globals_from = omega (arith, globals, import_count_push kinds.Global m.imports j);
      }
  leaves i (desc.Memory l) s m funcs globals =
      let j = with_desc i (desc.Memory l) in
      record {
        shifts = λ is. refl;
        valid = still_valid keeps finds (answers_of m) (answers_of (after_import j m)) (memory_import_grows m j l (import_count kinds.Memory m.imports) refl);
        funcs_from = omega (arith, funcs, import_count_push kinds.Func m.imports j);
        globals_from = omega (arith, globals, import_count_push kinds.Global m.imports j);
      }
  leaves i (desc.Global g) s m funcs globals =
      let j = with_desc i (desc.Global g) in
      record {
        shifts = λ is. global_shifts_more s (import_count kinds.Global m.imports) is globals;
        valid = λ f valid. keeps_moved moving.Global (import_count kinds.Global m.imports) (answers_of m)
            (answers_of (after_import j m)) f.ty f.ty f.body refl
            (all_moved moving.Global (import_count kinds.Global m.imports) (answers_of m) (answers_of (after_import j m))
            (global_import_moves m j g refl) (refs_of f.body.instrs)) ∙ valid;
        funcs_from = omega (arith, funcs, import_count_push kinds.Func m.imports j);
        globals_from = omega (arith, globals, import_count_push kinds.Global m.imports j);
      }

  -- ---- the draft of a module to which an import comes

  -- a module whose references have moved is formed, as `moving_of_module` ensures it
  module _ (formed : (kind : Kind) (from : ℕ) (m : Parts) → are_parts_stuck kind from m ≡ false → IsFormed m → IsFormed (moved_parts kind from m)) where
    pub import_sketch : (s : Shifts) (os : List Func) (deferred : List Bool) (i : Import) (m d : Parts) → IsDraft s os deferred m d → IsFormed m
        → are_parts_stuck (desc_kind i.desc) (import_place i m) m ≡ false
        → IsDraft (shifts_after (edits.Import i) s) os deferred (after_import i m) (with_import i (moved_parts (desc_kind i.desc) (import_place i m) d))
    import_sketch s os deferred i m d h shaped free =
        let kind = desc_kind i.desc in
        let from = import_place i m in
        let left : IsLeaving i s m = leaves i i.desc s m h.funcs_from h.globals_from in
        let codes = ((formed kind from m free shaped).valid CodeSection).1 in
        record {
          sketch = record {
            rest = ap (λ (p : Parts). with_import i (moved_parts kind from p)) h.sketch.rest;
            funcs = drafted_moved m.profile kind from (answers_of m) (answers_of (after_import i m)) s
                (one_more kind s) left.shifts left.valid os deferred m.funcs d.funcs codes h.sketch.funcs;
          };
          funcs_from = left.funcs_from;
          globals_from = left.globals_from;
        }

    -- ... where the draft has it at its own place
    pub import_after : (s : Shifts) (os : List Func) (deferred : List Bool) (i : Import) (m d : Parts) → IsDraft s os deferred m d → IsFormed m
        → are_parts_stuck (desc_kind i.desc) (import_place i m) m ≡ false
        → IsDraft (shifts_after (edits.Import i) s) os deferred (after_import i m) (after_import i d)
    import_after s os deferred i m d h shaped free =
        subst (λ (from : ℕ). IsDraft (shifts_after (edits.Import i) s) os deferred (after_import i m) (with_import i (moved_parts (desc_kind i.desc) from d)))
        (place_same s os deferred m d h.sketch i)
        (import_sketch s os deferred i m d h shaped free)
