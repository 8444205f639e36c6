-- A sketch of a module has its verdict, its customs settle alike, and where it is shaped, so is the module.
use Rattle.std.proofs.Common.{◌≡◌, ℕ, ◌^◌, ◌<◌, Bool, true, false, not, List, [], ◌∷◌, length, map, refl, sym, ap, subst, ◌∙◌, arith}
use Rattle.std.specs.Prelude.{slice_index_or}
use Rattle.std.specs.List.{AllByRecursion}
use Rattle.std.proofs.lemmas.List.{length-map}
use Rattle.wk_bytes.specs.ListWords.{is_empty}
use Rattle.wk_body.specs.declared.references.Ref.{Ref}
use Rattle.wk_body.specs.declared.types.Profile.{Profile}
use Rattle.wk_body.specs.Shape.{IsU32}
use Rattle.wk_module.specs.declared.types.Custom.{Custom}
use Rattle.wk_module.specs.declared.types.Func.{Func}
use Rattle.wk_module.specs.declared.types.Kind.TheVariants as kinds
use Rattle.wk_module.specs.declared.types.Parts.{Parts}
use Rattle.wk_module.specs.ChangeLaws.{funcs_formed}
use Rattle.wk_module.specs.Imports.{import_count}
use Rattle.wk_module.specs.Items.{IsCode}
use Rattle.wk_module.specs.Sections.{TypeSection, ImportSection, FunctionSection, TableSection, MemorySection, GlobalSection, ExportSection, StartSection}
use Rattle.wk_module.specs.Sections.{ElementSection, CodeSection, DataSection, AreItems}
use Rattle.wk_module.specs.Shape.{lists_of, is_written, filled_ids, settled_custom, settle, is_filled, IsFormed, IsShaped}
use Rattle.wk_typing.specs.declared.fault.BodyVerdict.{BodyVerdict}
use Rattle.wk_typing.specs.declared.fault.Verdict.{Verdict}
use Rattle.wk_typing.specs.Answers.{Found}
use Rattle.wk_check.specs.Flaws.{first_in}
use Rattle.wk_typing.specs.Faults.{body_flaw}
use Rattle.wk_check.specs.SpacesLaws.{answers_of}
use Rattle.wk_check.specs.Verdict.{func_verdict, verdict_around, module_verdict}
use Rattle.wk_draft.specs.Drafts.{AreDrafted, IsSketch, IsDraft}
use Rattle.wk_body.specs.declared.shifts.Shifts.{Shifts}
use Rattle.wk_draft.proofs.SketchTypes.{types_of, types_drafted, same_count, same_answers}

-- ---- functions

-- the verdicts of functions that are drafted
pub verdicts_drafted : (profile : Profile) (A : Ref → Found) (s : Shifts) (os : List Func) (deferred : List Bool) (fs gs : List Func)
    → AreDrafted profile A s os deferred fs gs
    → map (func_verdict A) gs ≡ map (func_verdict A) fs
verdicts_drafted profile A s [] [] fs gs h = ap (map (func_verdict A)) (sym h)
verdicts_drafted profile A s (o ∷ os) (true ∷ deferred) (f ∷ fs) (g ∷ gs) h =
    ap (λ (v : BodyVerdict). v ∷ map (func_verdict A) gs) (h.0.stub_valid ∙ sym h.0.valid)
    ∙ ap (λ (vs : List BodyVerdict). func_verdict A f ∷ vs) (verdicts_drafted profile A s os deferred fs gs h.1)
verdicts_drafted profile A s (o ∷ os) (false ∷ deferred) (f ∷ fs) (g ∷ gs) h =
    ap (λ (x : Func). func_verdict A x ∷ map (func_verdict A) gs) (sym h.0)
    ∙ ap (λ (vs : List BodyVerdict). func_verdict A f ∷ vs) (verdicts_drafted profile A s os deferred fs gs h.1)
verdicts_drafted profile A s _ _ _ _ h = absurd h

-- the bodies of a module are codes where those of its draft are
codes_drafted : (profile : Profile) (A : Ref → Found) (s : Shifts) (os : List Func) (deferred : List Bool) (fs gs : List Func)
    → AreDrafted profile A s os deferred fs gs
    → AllByRecursion (IsCode profile) (map (λ (f : Func). f.body) gs) → AllByRecursion (IsCode profile) (map (λ (f : Func). f.body) fs)
codes_drafted profile A s [] [] fs gs h all = subst (λ (xs : List Func). AllByRecursion (IsCode profile) (map (λ (f : Func). f.body) xs)) (sym h) all
codes_drafted profile A s (o ∷ os) (true ∷ deferred) (f ∷ fs) (g ∷ gs) h all = (h.0.code, codes_drafted profile A s os deferred fs gs h.1 all.1)
codes_drafted profile A s (o ∷ os) (false ∷ deferred) (f ∷ fs) (g ∷ gs) h all =
    (subst (λ (x : Func). IsCode profile x.body) (sym h.0) all.0, codes_drafted profile A s os deferred fs gs h.1 all.1)
codes_drafted profile A s _ _ _ _ h all = absurd h

-- ---- verdicts

-- the verdict of a module whose functions have these types and verdicts
abbrev verdict_with : Parts → List ℕ → List BodyVerdict → Verdict
verdict_with m ts vs = verdict_around m.profile (record (lists_of m) { funcs = ts }) (first_in 10 0 (map body_flaw vs))

is_empty_map : {A B : Type 0} (f : A → B) (xs : List A) → is_empty (map f xs) ≡ is_empty xs
is_empty_map f [] = refl
is_empty_map f (x ∷ xs) = refl

-- for each id whether its section is written, where this is so for those of functions and of codes
abbrev filled_by : Bool → Bool → Parts → List Bool
filled_by funcs codes m =
    false ∷ is_written m TypeSection ∷ is_written m ImportSection ∷ funcs ∷ is_written m TableSection ∷ is_written m MemorySection
    ∷ is_written m GlobalSection ∷ is_written m ExportSection ∷ is_written m StartSection ∷ is_written m ElementSection ∷ codes
    ∷ is_written m DataSection ∷ []

-- the same types are of as many functions
as_empty : (fs gs : List Func) → types_of gs ≡ types_of fs → is_empty (map (λ (f : Func). f.body) gs) ≡ is_empty (map (λ (f : Func). f.body) fs)
as_empty fs gs same =
    is_empty_map (λ (f : Func). f.body) gs
    ∙ sym (is_empty_map (λ (f : Func). f.ty) gs)
    ∙ ap is_empty same
    ∙ is_empty_map (λ (f : Func). f.ty) fs
    ∙ sym (is_empty_map (λ (f : Func). f.body) fs)

module _ (s : Shifts) (os : List Func) (deferred : List Bool) (m d : Parts) (h : IsSketch s os deferred m d) where
  -- bodies have the same verdicts
  pub same_verdicts : map (func_verdict (answers_of m)) m.funcs ≡ map (func_verdict (answers_of d)) d.funcs
  same_verdicts =
      sym (verdicts_drafted m.profile (answers_of m) s os deferred m.funcs d.funcs h.funcs)
      ∙ ap (λ (A : Ref → Found). map (func_verdict A) d.funcs) (sym (same_answers s os deferred m d h))

  pub same_verdict : module_verdict m ≡ module_verdict d
  same_verdict =
      ap (λ (vs : List BodyVerdict). verdict_with m (types_of m.funcs) vs) same_verdicts
      ∙ ap (λ (ts : List ℕ). verdict_with m ts (map (func_verdict (answers_of d)) d.funcs)) (sym (types_drafted s os deferred m d h))
      ∙ ap (λ (p : Parts). verdict_with p (types_of d.funcs) (map (func_verdict (answers_of d)) d.funcs)) (sym h.rest)

  -- ---- customs

  same_filled : filled_ids d ≡ filled_ids m
  same_filled =
      ap filled_ids h.rest
      ∙ ap (λ (b : Bool). filled_by (not (is_empty (types_of d.funcs))) b m) (ap not (as_empty m.funcs d.funcs (types_drafted s os deferred m d h)))
      ∙ ap (λ (b : Bool). filled_by b (not (is_empty (map (λ (f : Func). f.body) m.funcs))) m)
      (ap (λ (ts : List ℕ). not (is_empty ts)) (types_drafted s os deferred m d h))

  pub same_customs : d.customs ≡ m.customs
  same_customs = ap (λ (p : Parts). p.customs) h.rest

  same_settled : map (settled_custom (is_filled d)) d.customs ≡ map (settled_custom (is_filled m)) m.customs
  same_settled =
      ap (λ (bs : List Bool). map (settled_custom (λ id. slice_index_or bs id false)) d.customs) same_filled
      ∙ ap (map (settled_custom (is_filled m))) same_customs

  -- customs settle alike
  pub settled_sketch : IsSketch s os deferred (settle m) (settle d)
  settled_sketch = record {
    rest =
        ap (λ (p : Parts). record p { customs = map (settled_custom (is_filled d)) d.customs }) h.rest
        ∙ ap (λ (cs : List Custom). record m { funcs = d.funcs; customs = cs }) same_settled;
    funcs = h.funcs;
  }

  -- ---- shapes

  pub formed_draft : IsFormed d → IsFormed m
  formed_draft formed =
      let few = (formed.valid CodeSection).0 in
      let profile = ap (λ (p : Parts). p.profile) h.rest in
      let count = same_count s os deferred m d h in
      let types = subst (AreItems IsU32) (types_drafted s os deferred m d h) (formed.valid FunctionSection) in
      let codes = codes_drafted m.profile (answers_of m) s os deferred m.funcs d.funcs h.funcs
      (subst (λ (p : Profile). AllByRecursion (IsCode p) (map (λ (f : Func). f.body) d.funcs)) profile (formed.valid CodeSection).1) in
      let room : length (map (λ (f : Func). f.body) m.funcs) < 2 ^ 32 =
      omega (arith, few, count, length-map d.funcs (λ (f : Func). f.body), length-map m.funcs (λ (f : Func). f.body)) in
      subst IsFormed (ap (λ (p : Parts). record p { funcs = m.funcs }) h.rest)
      (funcs_formed m.funcs d types (subst (λ (p : Profile). AreItems (IsCode p) (map (λ (f : Func). f.body) m.funcs)) (sym profile) (room, codes)) formed)

  pub shaped_draft : IsShaped d → IsShaped m
  shaped_draft shaped = record {
    formed = formed_draft shaped.formed;
    settled = ap (λ (cs : List Custom). record m { customs = cs }) (sym same_settled ∙ ap (λ (p : Parts). p.customs) shaped.settled ∙ same_customs);
  }

-- ---- drafts

-- a sketch of a module with the imports of one that has a draft is a draft
pub still_draft : (s : Shifts) (os : List Func) (deferred now : List Bool) (m d n c : Parts) → n.imports ≡ m.imports → IsDraft s os deferred m d
    → IsSketch s os now n c → IsDraft s os now n c
still_draft s os deferred now m d n c same h sketch = record {
  sketch = sketch;
  funcs_from = ap (import_count kinds.Func) same ∙ h.funcs_from;
  globals_from = ap (import_count kinds.Global) same ∙ h.globals_from;
}

pub settled_draft : (s : Shifts) (os : List Func) (deferred : List Bool) (m d : Parts) → IsDraft s os deferred m d → IsDraft s os deferred (settle m) (settle d)
settled_draft s os deferred m d h = still_draft s os deferred deferred m d (settle m) (settle d) refl h (settled_sketch s os deferred m d h.sketch)
