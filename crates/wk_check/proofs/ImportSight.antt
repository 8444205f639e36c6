-- What code sees where an import comes to a module.
use Rattle.std.proofs.Common.{◌≡◌, ℕ, true, List, [], ◌∷◌, ◌++◌, length, None, refl, sym, ap, ◌∙◌}
use Rattle.std.proofs.lemmas.List.{append-nil}
use Rattle.std.specs.Prelude.{slice_get}
use Rattle.wk_body.specs.declared.renumber.Moving.TheVariants as moving
use Rattle.wk_body.specs.declared.references.Ref.{Ref}
use Rattle.wk_body.specs.declared.references.Ref.TheVariants as refs
use Rattle.wk_body.specs.declared.types.ValType.{ValType}
use Rattle.wk_body.specs.References.{moved, refs_of}
use Rattle.wk_body.specs.Tree.{Instrs}
use Rattle.wk_module.specs.declared.types.Func.{Func}
use Rattle.wk_module.specs.declared.types.GlobalType.{GlobalType}
use Rattle.wk_module.specs.declared.types.Import.{Import}
use Rattle.wk_module.specs.declared.types.ImportDesc.TheVariants as desc
use Rattle.wk_module.specs.declared.types.Kind.{Kind}
use Rattle.wk_module.specs.declared.types.Kind.TheVariants as kinds
use Rattle.wk_module.specs.declared.types.Limits.{Limits}
use Rattle.wk_module.specs.declared.types.Parts.{Parts}
use Rattle.wk_module.specs.Changes.{with_import}
use Rattle.wk_module.specs.Imports.{import_count}
use Rattle.wk_module.specs.Moving.{moved_index, moved_expr, moved_func, moved_parts}
use Rattle.wk_module.specs.Shape.{lists_of}
use Rattle.wk_typing.specs.declared.fault.BodyVerdict.TheVariants as bodies
use Rattle.wk_typing.specs.Answers.{Found}
use Rattle.wk_typing.specs.Carried.{moved_ref}
use Rattle.wk_typing.specs.Constants.{constant_flaw}
use Rattle.wk_typing.specs.Finds.{Grows}
use Rattle.wk_check.specs.Items.{is_start}
use Rattle.wk_check.specs.Spaces.{answer_in, initial_spaces, global_found, imported, global_in}
use Rattle.wk_check.specs.SpacesLaws.{answers_of, imported_aside, imported_last, at_moved, imported_globals, func_import_moves, global_import_moves}
use Rattle.wk_check.specs.SpacesLaws.{table_import_grows, memory_import_grows}
use Rattle.wk_check.specs.Verdict.{func_verdict}
use Rattle.wk_check.proofs.ConstantFrames.{constant_fine, constant_by_globals, constant_renumbered, all_moved}
use Rattle.wk_typing.proofs.Frames.{renumbered}
use Rattle.wk_check.proofs.LargerSpaces.{starts_there, func_still}

-- what an initialiser finds
abbrev pub initial_of : Parts → Ref → Found
initial_of m = answer_in (initial_spaces (lists_of m))

-- Where each reference of a kind moves from an index on, what was fine in m is fine in n.
pub record SeesStill (kind : Kind) (from : ℕ) (m n : Parts) : Type 0 where
  pub constants : (ty : ValType) (is : Instrs) → constant_flaw (answers_of m) ty is ≡ None → constant_flaw (answers_of n) ty (moved_expr kind from is) ≡ None
  pub initial : (ty : ValType) (is : Instrs) → constant_flaw (initial_of m) ty is ≡ None → constant_flaw (initial_of n) ty (moved_expr kind from is) ≡ None
  pub starts : (x : ℕ) → is_start (answers_of m (refs.Func x)) ≡ true → is_start (answers_of n (refs.Func (moved_index kind from kinds.Func x))) ≡ true
  pub codes : (f : Func) → func_verdict (answers_of m) f ≡ bodies.Valid → func_verdict (answers_of n) (moved_func kind from f) ≡ bodies.Valid

abbrev pub after : Kind → Import → Parts → Parts
after kind i m = with_import i (moved_parts kind (import_count kind m.imports) m)

module _ (m : Parts) (i : Import) where
  -- the imported globals, where another thing is imported
  globals_stay : (kind : Kind) → global_in i.desc ≡ None → (x : ℕ) → initial_of (after kind i m) (refs.Global x) ≡ initial_of m (refs.Global x)
  globals_stay kind none x = ap (λ (gs : List GlobalType). global_found (slice_get gs x)) (imported_aside global_in m.imports i none)

  pub func_sees : (t : ℕ) → i.desc ≡ desc.Func t → SeesStill kinds.Func (import_count kinds.Func m.imports) m (after kinds.Func i m)
  func_sees t is =
      let A = answers_of m in
      let B = answers_of (after kinds.Func i m) in
      let from = import_count kinds.Func m.imports in
      let moves = func_import_moves m i t is in
      record {
        constants = constant_by_globals A B (λ x. moves (refs.Global x));
        initial = constant_by_globals (initial_of m) (initial_of (after kinds.Func i m)) (globals_stay kinds.Func (ap global_in is));
        starts = λ x e. ap is_start (moves (refs.Func x)) ∙ e;
        codes = λ f e. renumbered moving.Func from A B f.ty f.ty f.body (moves (refs.Ty f.ty))
            (all_moved moving.Func from A B moves (refs_of f.body.instrs)) ∙ e;
      }

  initial_moves : (g : GlobalType) → i.desc ≡ desc.Global g → (r : Ref)
      → initial_of (after kinds.Global i m) (moved_ref moving.Global (import_count kinds.Global m.imports) r) ≡ initial_of m r
  initial_moves g is (refs.Ty x) = refl
  initial_moves g is (refs.Func x) = global_import_moves m i g is (refs.Func x)
  initial_moves g is (refs.Global x) =
      let front = imported global_in m.imports in
      let place : length front ≡ import_count kinds.Global m.imports = imported_globals m.imports in
      ap (λ (gs : List GlobalType). global_found (slice_get gs (moved (import_count kinds.Global m.imports) x)))
      (imported_last global_in m.imports i g (ap global_in is) ∙ sym (append-nil (front ++ g ∷ [])))
      ∙ ap (λ (k : ℕ). global_found (slice_get ((front ++ g ∷ []) ++ []) (moved k x))) (sym place)
      ∙ ap global_found (at_moved front [] g x)
      ∙ ap (λ (gs : List GlobalType). global_found (slice_get gs x)) (append-nil front)
  initial_moves g is refs.Table = global_import_moves m i g is refs.Table
  initial_moves g is refs.Memory = global_import_moves m i g is refs.Memory

  pub global_sees : (g : GlobalType) → i.desc ≡ desc.Global g → SeesStill kinds.Global (import_count kinds.Global m.imports) m (after kinds.Global i m)
  global_sees g is =
      let n = after kinds.Global i m in
      let A = answers_of m in
      let B = answers_of n in
      let from = import_count kinds.Global m.imports in
      let moves = global_import_moves m i g is in
      record {
        constants = λ ty e none. constant_renumbered moving.Global from A B ty e (all_moved moving.Global from A B moves (refs_of e)) ∙ none;
        initial = λ ty e none. constant_renumbered moving.Global from (initial_of m) (initial_of n) ty e
            (all_moved moving.Global from (initial_of m) (initial_of n) (initial_moves g is) (refs_of e)) ∙ none;
        starts = λ x e. ap is_start (moves (refs.Func x)) ∙ e;
        codes = λ f e. renumbered moving.Global from A B f.ty f.ty f.body (moves (refs.Ty f.ty))
            (all_moved moving.Global from A B moves (refs_of f.body.instrs)) ∙ e;
      }

  start_still : (n : Parts) → Grows (answers_of m) (answers_of n) → (x : ℕ) → is_start (answers_of m (refs.Func x)) ≡ true
      → is_start (answers_of n (refs.Func x)) ≡ true
  start_still n grows x e = ap is_start (grows (refs.Func x) (starts_there (answers_of m (refs.Func x)) e)) ∙ e

  -- a table, or a memory: no reference moves
  abbrev IsUnmoved : Kind → Type 0
  IsUnmoved kinds.Func = ⊥
  IsUnmoved kinds.Global = ⊥
  IsUnmoved kind = Unit {0}

  unmoved_sees : (kind : Kind) → IsUnmoved kind → global_in i.desc ≡ None → Grows (answers_of m) (answers_of (after kind i m))
      → SeesStill kind (import_count kind m.imports) m (after kind i m)
  unmoved_sees kinds.Func h none grows = absurd h
  unmoved_sees kinds.Global h none grows = absurd h
  unmoved_sees kind h none grows = record {
    constants = constant_fine (answers_of m) (answers_of (after kind i m)) grows;
    initial = constant_by_globals (initial_of m) (initial_of (after kind i m)) (globals_stay kind none);
    starts = start_still (after kind i m) grows;
    codes = λ f e. func_still (answers_of m) (answers_of (after kind i m)) grows f e ∙ e;
  }

  pub table_sees : (l : Limits) → i.desc ≡ desc.Table l → SeesStill kinds.Table (import_count kinds.Table m.imports) m (after kinds.Table i m)
  table_sees l is = unmoved_sees kinds.Table tt (ap global_in is) (table_import_grows m i l (import_count kinds.Table m.imports) is)

  pub memory_sees : (l : Limits) → i.desc ≡ desc.Memory l → SeesStill kinds.Memory (import_count kinds.Memory m.imports) m (after kinds.Memory i m)
  memory_sees l is = unmoved_sees kinds.Memory tt (ap global_in is) (memory_import_grows m i l (import_count kinds.Memory m.imports) is)
