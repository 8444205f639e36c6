-- An import more.
use Rattle.std.proofs.Common.{◌≡◌, ℕ, ◌-◌, ◌^◌, ◌<◌, Bool, true, false, if◌then◌else◌, List, [], ◌∷◌, length, map, take, count_by, Err, refl}
use Rattle.std.proofs.Common.{ap, sym, subst, ◌∙◌, arith}
use Rattle.std.specs.List.{list_any}
use Rattle.std.proofs.lemmas.List.{length-map, map-id}
use Rattle.wk_bytes.specs.Leb.{◌>>=◌}
use Rattle.wk_body.specs.declared.renumber.Moving.{Moving}
use Rattle.wk_body.specs.declared.references.Ref.{Ref}
use Rattle.wk_body.specs.declared.references.Ref.TheVariants as refs
use Rattle.wk_body.specs.Moves.{MoveAlike}
use Rattle.wk_body.specs.References.{refs_of}
use Rattle.wk_module.specs.declared.renumber.MovedLists.{MovedLists}
use Rattle.wk_module.specs.declared.types.Func.{Func}
use Rattle.wk_module.specs.declared.types.Import.{Import}
use Rattle.wk_module.specs.declared.types.ImportDesc.{ImportDesc}
use Rattle.wk_module.specs.declared.types.Kind.{Kind}
use Rattle.wk_module.specs.declared.types.Parts.{Parts}
use Rattle.wk_module.specs.Changes.{with_import}
use Rattle.wk_module.specs.Imports.{import_count}
use Rattle.wk_module.specs.ChangeLaws.{import_formed}
use Rattle.wk_module.specs.Items.{desc_kind, IsImport}
use Rattle.wk_module.specs.Listed.{listed_with}
use Rattle.wk_module.specs.MovedLaws.{types_stay}
use Rattle.wk_module.specs.Moving.{moved_func, moved_parts, moved_lists, with_moved, with_lists, is_code_stuck, are_parts_stuck}
use Rattle.wk_module.specs.NumberedLaws.{funcs_numbered}
use Rattle.wk_module.specs.Sections.{SectionLists, ImportSection}
use Rattle.wk_module.specs.Shape.{IsFormed, settle}
use Rattle.wk_typing.specs.Answers.{Found}
use Rattle.wk_typing.specs.declared.fault.BodyVerdict.{BodyVerdict}
use Rattle.wk_typing.specs.Finds.{Grows}
use Rattle.wk_check.specs.Spaces.{answer_in, spaces_of}
use Rattle.wk_typing.specs.Carried.{moved_ref, KeepsMoved}
use Rattle.wk_check.specs.SpacesLaws.{answers_of}
use Rattle.wk_check.specs.Verdict.{func_verdict}
use Rattle.wk_session.specs.declared.edit.Edit.TheVariants as edits
use Rattle.wk_session.specs.declared.edit.EditFault.TheVariants.{IndexOverflow}
use Rattle.wk_session.specs.declared.edits.import.ImportPlan.{ImportPlan}
use Rattle.wk_session.specs.declared.cache.Cache.{Cache}
use Rattle.wk_session.specs.Dependents.{ref_moved, is_retyped, answers_after, is_retyped_in}
use Rattle.wk_session.specs.Edits.{import_place, made, lasting, fitting}
use Rattle.wk_session.specs.Imported.{after_import, before_import, IsImportPlan, IsReady}
use Rattle.wk_session.specs.Kept.{IsKept, uses_of, standing}
use Rattle.wk_session.specs.MovedEntries.{shifted_func, uses_movement}
use Rattle.wk_session.proofs.Keeping.{room_kept}
use Rattle.wk_session.proofs.LastItems.{but_last_push}
use Rattle.wk_session.proofs.Lent.{answers_in, lent}
use Rattle.wk_session.proofs.MovedCode.{uses_as_code, any_told}
use Rattle.wk_session.proofs.Works.{all_of, none_retyped}

-- ---- references that can't move

-- the kept sets tell whether a code is stuck
pub sets_stuck : MoveAlike → (kind : Kind) (from : ℕ) (m : Parts) (k : Cache) → IsKept m k
    → list_any (λ s. (uses_movement kind from s.keys).stuck) k.refs.items ≡ list_any (λ (f : Func). is_code_stuck kind from f.body.instrs) m.funcs
sets_stuck alike kind from m k kept =
    any_told (λ s. s.keys) uses_of (λ (keys : List Ref). (uses_movement kind from keys).stuck) (λ (f : Func). is_code_stuck kind from f.body.instrs)
    (λ f. ap (λ w. w.stuck) (uses_as_code alike kind from f (uses_of f) refl))
    k.refs.items m.funcs kept.refs

-- ---- the outcome

pub made_free : (keep : Bool) (i : Import) (m : Parts) → are_parts_stuck (desc_kind i.desc) (import_place i m) m ≡ false
    → made keep (edits.Import i) m ≡ standing keep (after_import i m)
made_free keep i m free =
    ap (λ (b : Bool). (if b then Err IndexOverflow else fitting (settle (after_import i m))) >>= lasting keep) free

pub made_stuck : (keep : Bool) (i : Import) (m : Parts) → are_parts_stuck (desc_kind i.desc) (import_place i m) m ≡ true
    → made keep (edits.Import i) m ≡ Err IndexOverflow
made_stuck keep i m stuck =
    ap (λ (b : Bool). (if b then Err IndexOverflow else fitting (settle (after_import i m))) >>= lasting keep) stuck

-- ---- lists of which all items are alike

map_same : {A B C : Type 0} (g : B → C) (h : A → C) (change : A → B) → ((x : A) → g (change x) ≡ h x) → (xs : List A) → map g (map change xs) ≡ map h xs
map_same g h change same [] = refl
map_same {C = C} g h change same (x ∷ xs) =
    ap (λ (y : C). y ∷ map g (map change xs)) (same x) ∙ ap (λ (ys : List C). h x ∷ ys) (map_same g h change same xs)

map_still : {A : Type 0} (change : A → A) → ((x : A) → change x ≡ x) → (xs : List A) → map change xs ≡ xs
map_still change same xs = sym (map-id (map change xs)) ∙ map_same (λ x. x) (λ x. x) change same xs ∙ map-id xs

-- ---- an import of a function or of a global: each reference finds what it found

-- ---- an import of a kind of thing

-- the module with it
abbrev pub after_of : ImportDesc → Import → Parts → Parts
after_of d i m = with_import i (moved_parts (desc_kind d) (import_count (desc_kind d) m.imports) m)

-- the verdicts of all bodies there
abbrev pub verdicts_of : ImportDesc → Import → Parts → List BodyVerdict
verdicts_of d i m = map (func_verdict (answers_of (after_of d i m))) (after_of d i m).funcs

-- a reference of m, where it stands after that
abbrev pub ref_of : ImportDesc → Parts → Ref → Ref
ref_of d m r = ref_moved (desc_kind d) (import_count (desc_kind d) m.imports) r

module _ (i : Import) (m : Parts) (d : ImportDesc) (is : i.desc ≡ d) where
  -- no body is typed again, where each reference finds what it found
  pub retypes_none : ((r : Ref) → answers_of (after_of d i m) (ref_of d m r) ≡ answers_of m r)
      → count_by (is_retyped (edits.Import i) m (after_import i m)) m.funcs ≡ 0
  retypes_none finds =
      none_retyped (answers_of m) (answers_after (edits.Import i) m (after_import i m))
      (λ r. ap (λ (e : ImportDesc). answers_of (after_of e i m) (ref_of e m r)) is ∙ finds r) m.funcs

  -- and their verdicts stay as they move
  pub verdicts_stay : KeepsMoved → (kind : Moving) → let from = import_count (desc_kind d) m.imports in
      ((f : Func) → moved_func (desc_kind d) from f ≡ shifted_func kind from f)
      → ((r : Ref) → answers_of (after_of d i m) (moved_ref kind from r) ≡ answers_of m r)
      → ((t : ℕ) → answers_of (after_of d i m) (refs.Ty t) ≡ answers_of m (refs.Ty t)) → verdicts_of i.desc i m ≡ map (func_verdict (answers_of m)) m.funcs
  verdicts_stay keeps kind moves finds types =
      let from = import_count (desc_kind d) m.imports in
      let A = answers_of m in
      let B = answers_of (after_of d i m) in
      ap (λ (e : ImportDesc). verdicts_of e i m) is
      ∙ map_same (func_verdict B) (func_verdict A) (moved_func (desc_kind d) from)
      (λ f. ap (func_verdict B) (moves f)
      ∙ keeps kind from A B f.ty f.ty f.body (types f.ty) (all_of (λ (r : Ref). B (moved_ref kind from r) ≡ A r) finds (refs_of f.body.instrs)))
      m.funcs

  -- by the lists of the module with an import that moves no body and no reference
  module _ (w : SectionLists) (lists : w ≡ lent (after_import i m)) where
    pub grows_beside : Grows (answers_of m) (answers_of (after_of d i m)) → Grows (answers_of m) (answers_in w)
    grows_beside grows =
        subst (λ (l : SectionLists). Grows (answers_of m) (answers_in l)) (sym lists)
        (subst (λ (e : ImportDesc). Grows (answers_of m) (answers_of (after_of e i m))) (sym is) grows)

    pub verdicts_beside : ((f : Func) → moved_func (desc_kind d) (import_count (desc_kind d) m.imports) f ≡ f)
        → map (func_verdict (answers_in w)) m.funcs ≡ verdicts_of i.desc i m
    verdicts_beside still =
        let from = import_count (desc_kind d) m.imports in
        let funcs = ap (λ (e : ImportDesc). (after_of e i m).funcs) is ∙ map_still (moved_func (desc_kind d) from) still m.funcs in
        ap (λ (l : SectionLists). map (func_verdict (answers_in l)) m.funcs) lists ∙ ap (map (func_verdict (answers_of (after_import i m)))) (sym funcs)

    pub typed_beside : (λ (r : Ref). answers_of (after_import i m) (ref_of d m r)) ≡ answers_of (after_import i m)
        → count_by (is_retyped_in (answers_of m) (answers_in w)) m.funcs ≡ count_by (is_retyped (edits.Import i) m (after_import i m)) m.funcs
    typed_beside same =
        let counted : (Ref → Found) → ℕ = λ B. count_by (is_retyped_in (answers_of m) B) m.funcs in
        ap (λ (l : SectionLists). counted (answers_in l)) lists ∙ ap counted (sym same)
        ∙ sym (ap (λ (e : ImportDesc). counted (λ r. answers_of (after_import i m) (ref_of e m r))) is)

-- ---- the lists that are lent

-- what the code sees without the last import
pub before_finds : (p : Parts) (l : SectionLists) (types : List ℕ) (imports : List Import) → types ≡ map (λ (f : Func). f.ty) p.funcs → imports ≡ p.imports
    → l ≡ record (listed_with types p) { imports = take (length imports - 1) imports } → answer_in (spaces_of l) ≡ answers_of (before_import p)
before_finds p l types imports typed same is =
    ap (λ (w : SectionLists). answer_in (spaces_of w)) is
    ∙ ap (λ (ts : List ℕ). answer_in (spaces_of (record (listed_with ts p) { imports = take (length imports - 1) imports }))) typed
    ∙ ap (λ (xs : List Import). answers_of (record p { imports = take (length xs - 1) xs })) same

-- the lists that moved, laid over the others, are those of the module
abbrev pub AreLaid : Type 0
AreLaid = (kind : Kind) (from : ℕ) (m : Parts) → with_lists (moved_lists kind from m) m ≡ record (moved_parts kind from m) { funcs = m.funcs }

pub pending_lists : AreLaid → (i : Import) (m p : Parts) (types : List ℕ) (v : MovedLists) → p ≡ with_import i m
    → types ≡ map (λ (f : Func). f.ty) m.funcs → v ≡ moved_lists (desc_kind i.desc) (import_place i m) m
    → with_moved v (listed_with types p) ≡ lent (after_import i m)
pending_lists laid i m p types v pushed typed lists =
    let kind = desc_kind i.desc in
    let from = import_place i m in
    ap (λ (q : Parts). with_moved v (listed_with types q)) pushed
    ∙ ap (λ (w : MovedLists). listed_with types (with_import i (with_lists w m))) lists
    ∙ ap (λ (q : Parts). listed_with types (with_import i q)) (laid kind from m)
    ∙ ap (λ (ts : List ℕ). listed_with ts (after_import i m)) (typed ∙ sym (types_stay kind from m.funcs))

pub funcs_few : (i : Import) (m : Parts) → IsFormed (after_import i m) → length m.funcs < 2 ^ 32
funcs_few i m formed =
    omega (arith, funcs_numbered (after_import i m) formed, length-map m.funcs (moved_func (desc_kind i.desc) (import_place i m)))

-- ---- the import, pushed

-- without it the module is as before
pub pushed_before : (i : Import) (m p : Parts) → p ≡ with_import i m → before_import p ≡ m
pushed_before i m p pushed =
    ap (λ (q : Parts). before_import q) pushed ∙ ap (λ (is : List Import). record m { imports = is }) (but_last_push m.imports i)

-- the law of formed modules whose references have moved
abbrev pub AreFormedMoved : Type 0
AreFormedMoved = (kind : Kind) (from : ℕ) (m : Parts) → are_parts_stuck kind from m ≡ false → IsFormed m → IsFormed (moved_parts kind from m)

pub formed_after : AreFormedMoved → (i : Import) (m : Parts) (k : Cache) → IsKept m k → are_parts_stuck (desc_kind i.desc) (import_place i m) m ≡ false
    → IsImport i → IsFormed m → IsFormed (after_import i m)
formed_after moves i m k kept free valid formed =
    let kind = desc_kind i.desc in
    let from = import_place i m in
    import_formed i (moved_parts kind from m) (room_kept m k ImportSection kept) valid (moves kind from m free formed)

pub ready_after : AreFormedMoved → (i : Import) (m p : Parts) (k : Cache) (plan : ImportPlan) → p ≡ with_import i m → IsKept m k
    → IsImportPlan (desc_kind i.desc) (import_place i m) m plan → IsImport i → IsFormed m
    → IsReady i (before_import p) p k plan
ready_after moves i m p k plan pushed kept planned valid formed =
    subst (λ (q : Parts). IsReady i q p k plan) (sym (pushed_before i m p pushed)) (record {
      pushed = pushed;
      kept = kept;
      plan = planned;
      formed = formed_after moves i m k kept planned.free valid formed;
    })
