-- A valid module to which an import comes: its verdict is what is wrong with the import, or that its own table or memory is one too many.
use Rattle.std.proofs.Common.{◌≡◌, ℕ, ◌+◌, ◌≤◌, ◌==◌, if◌then◌else◌, List, [], ◌∷◌, ◌++◌, length, map, Option, Some, None, refl, sym, ap, subst, ◌∙◌, inl, inr}
use Rattle.std.proofs.Common.{arith, length-append}
use Rattle.std.proofs.lemmas.Bool.{cases_Bool, cases_lt, lt-leb, le-leb, cond-false, cond-true, le-ltb}
use Rattle.std.proofs.lemmas.Bool.Decides.{same_from_decides, Decides-eqb}
use Rattle.std.specs.List.{AllByRecursion}
use Rattle.wk_body.specs.References.{moved}
use Rattle.wk_module.specs.declared.types.Func.{Func}
use Rattle.wk_module.specs.declared.types.GlobalDef.{GlobalDef}
use Rattle.wk_module.specs.declared.types.Import.{Import}
use Rattle.wk_module.specs.declared.types.ImportDesc.{ImportDesc}
use Rattle.wk_module.specs.declared.types.ImportDesc.TheVariants as desc
use Rattle.wk_module.specs.declared.types.Kind.{Kind}
use Rattle.wk_module.specs.declared.types.Kind.TheVariants as kinds
use Rattle.wk_module.specs.declared.types.Limits.{Limits}
use Rattle.wk_module.specs.declared.types.Parts.{Parts}
use Rattle.wk_module.specs.Items.{desc_kind}
use Rattle.wk_module.specs.MovedLaws.{types_stay, global_types_stay}
use Rattle.wk_module.specs.Moving.{moved_index, moved_expr, moved_func, moved_global, moved_start}
use Rattle.wk_module.specs.Imports.{import_count}
use Rattle.wk_module.specs.ImportLaws.{import_count_push}
use Rattle.wk_module.specs.Shape.{lists_of}
use Rattle.wk_module.specs.Types.{kind_byte}
use Rattle.wk_typing.specs.declared.fault.Fault.{Fault}
use Rattle.wk_typing.specs.declared.fault.FaultKind.{FaultKind}
use Rattle.wk_typing.specs.declared.fault.FaultKind.TheVariants.{UnknownType, UnknownFunc, UnknownTable, UnknownMemory, UnknownGlobal, LimitsOrder, MemoryRange}
use Rattle.wk_typing.specs.declared.fault.FaultKind.TheVariants.{TooManyTables, TooManyMemories}
use Rattle.wk_typing.specs.declared.fault.Flaw.{Flaw}
use Rattle.wk_typing.specs.declared.fault.BodyVerdict.TheVariants as bodies
use Rattle.wk_typing.specs.declared.fault.Verdict.TheVariants.{Valid}
use Rattle.wk_check.specs.Flaws.{numbered, first_in, first_fault, verdict_by, AreFine}
use Rattle.wk_check.specs.Growth.{crowded, crowded_by}
use Rattle.wk_check.specs.Items.{earlier, unless, within, alone, in_order, in_range, table_flaw, memory_flaw, import_flaw, global_flaw, index_flaw, start_flaws}
use Rattle.wk_typing.specs.Faults.{body_flaw}
use Rattle.wk_check.specs.Spaces.{Spaces, spaces_of, imported, func_in, table_in, memory_in, global_in}
use Rattle.wk_check.specs.SpacesLaws.{answers_of, imported_aside, imported_last, imported_funcs, imported_globals}
use Rattle.wk_check.specs.Verdict.{type_flaws, import_flaws, func_flaws, table_flaws, memory_flaws, global_flaws, export_flaws, elem_flaws, code_flaws}
use Rattle.wk_check.specs.Verdict.{data_flaws, func_verdict, module_verdict}
use Rattle.wk_check.proofs.CarriedItems.{Carries, exports_carried, start_carried, elems_carried, datas_carried}
use Rattle.wk_check.proofs.FlawLists.{none_in, fine_map, none_from, first_behind, behind, numbered_behind, behind_push, length-behind}
use Rattle.wk_check.proofs.Flaws.{earlier_none, module_flaws_are}
use Rattle.wk_check.proofs.Imported.{imported_tables, imported_memories}
use Rattle.wk_check.proofs.ImportSight.{SeesStill, after, initial_of, func_sees, table_sees, memory_sees, global_sees}
use Rattle.wk_check.proofs.LargerSpaces.{valid_bodies}
use Rattle.wk_check.proofs.Valid.{IsFine, both_none, within_less, less_within}
use Rattle.wk_check.proofs.ValidGrowth.{valid_fine, pushed_in}

-- ---- indexes

-- how much longer the space of a kind becomes
abbrev one : Kind → Kind → ℕ
one kind named = if kind_byte kind == kind_byte named then 1 else 0

moved_le : (from x : ℕ) → moved from x ≤ x + 1
moved_le from x = elim (cases_lt x from) [
  | inl h ↦ omega (arith, cond-false _ (x + 1) x (lt-leb from x h))
  | inr h ↦ omega (arith, cond-true _ (x + 1) x (le-leb from x h))
]

moved_index_le : (kind : Kind) (from : ℕ) (named : Kind) (x : ℕ) → moved_index kind from named x ≤ x + one kind named
moved_index_le kind from named x = elim (cases_Bool (kind_byte kind == kind_byte named)) [
  | inl t ↦ rw t (moved_le from x)
  | inr f ↦ rw f (omega arith)
]

eq_flip : (a b : ℕ) → (a == b) ≡ (b == a)
eq_flip a b =
    let back = Decides-eqb b a in
    same_from_decides _ _ (Decides-eqb a b) (λ e. sym (back.0 e), λ e. back.1 (sym e))

-- where the imported ones are counted
space_more : {X : Type 0} (pick : ImportDesc → Option X) (named : Kind) → ((is : List Import) → length (imported pick is) ≡ import_count named is)
    → (is : List Import) (i : Import) (own now : List X) → now ≡ own
    → length (imported pick (is ++ i ∷ []) ++ now) ≡ length (imported pick is ++ own) + one (desc_kind i.desc) named
space_more {X = X} pick named counted is i own now same =
    let flipped = ap {B = ℕ} (λ b. if b then 1 else 0) (eq_flip (kind_byte named) (kind_byte (desc_kind i.desc))) in
    omega (
      arith,
      counted is,
      counted (is ++ i ∷ []),
      import_count_push named is i,
      flipped,
      ap (λ (xs : List X). length xs) same,
      length-append (imported pick (is ++ i ∷ [])) now,
      length-append (imported pick is) own,
    )

moved_within : {X : Type 0} (fault : FaultKind) (kind named : Kind) (from : ℕ) (xs ys : List X) (x : ℕ) → length ys ≡ length xs + one kind named
    → within fault xs x ≡ None → within fault ys (moved_index kind from named x) ≡ None
moved_within fault kind named from xs ys x more none =
    less_within fault ys (moved_index kind from named x) (omega (arith, more, moved_index_le kind from named x, within_less fault xs x none))

-- ---- a module with the import

module _ (m : Parts) (i : Import) where
  abbrev kind : Kind
  kind = desc_kind i.desc

  abbrev from : ℕ
  from = import_count kind m.imports

  abbrev n : Parts
  n = after kind i m

  abbrev s : Spaces
  s = spaces_of (lists_of m)

  abbrev t : Spaces
  t = spaces_of (lists_of n)

  indexes_move : (named : Kind) (x : ℕ) → index_flaw s named x ≡ None → index_flaw t named (moved_index kind from named x) ≡ None
  indexes_move kinds.Func x =
      moved_within UnknownFunc kind kinds.Func from s.funcs t.funcs x
      (space_more func_in kinds.Func imported_funcs m.imports i (lists_of m).funcs (lists_of n).funcs (types_stay kind from m.funcs))
  indexes_move kinds.Table x =
      moved_within UnknownTable kind kinds.Table from s.tables t.tables x (space_more table_in kinds.Table imported_tables m.imports i m.tables m.tables refl)
  indexes_move kinds.Memory x =
      moved_within UnknownMemory kind kinds.Memory from s.memories t.memories x
      (space_more memory_in kinds.Memory imported_memories m.imports i m.memories m.memories refl)
  indexes_move kinds.Global x =
      moved_within UnknownGlobal kind kinds.Global from s.globals t.globals x
      (space_more global_in kinds.Global imported_globals m.imports i (map (λ (g : GlobalDef). g.ty) m.globals)
      (map (λ (g : GlobalDef). g.ty) n.globals) (global_types_stay kind from m.globals))

  module _ (fine : IsFine m) (sees : SeesStill kind from m n) where
    carries : Carries (moved_index kind from) (moved_expr kind from) s t
    carries = record { indexes = indexes_move; constants = sees.constants; starts = sees.starts }

    codes_move : (fs : List Func) → AllByRecursion (λ f. func_verdict (answers_of m) f ≡ bodies.Valid) fs
        → AreFine (map body_flaw (map (func_verdict (answers_of n)) (map (moved_func kind from) fs)))
    codes_move [] valid = tt
    codes_move (f ∷ fs) valid = (ap body_flaw (sees.codes f valid.0), codes_move fs valid.1)

    start_moves : (o : Option ℕ) → AreFine (start_flaws s o) → AreFine (start_flaws t (moved_start kind from o))
    start_moves None h = tt
    start_moves (Some x) h = start_carried (moved_index kind from) (moved_expr kind from) s t carries (Some x) h

    behind_storage : AllByRecursion AreFine
        (global_flaws (lists_of n) ∷ export_flaws (lists_of n) ∷ start_flaws t n.start ∷ elem_flaws (lists_of n) ∷ code_flaws (lists_of n) n.funcs
        ∷ data_flaws (lists_of n) ∷ [])
    behind_storage = (
      fine_map (λ item g. global_flaw (initial_of m) g) (λ item g. global_flaw (initial_of n) g) (moved_global kind from)
          (λ item g. sees.initial g.ty.val g.init) 0 m.globals fine.globals,
      (
        exports_carried (moved_index kind from) (moved_expr kind from) s t carries m.exports fine.exports,
        (
          start_moves m.start fine.start,
          (
            elems_carried (moved_index kind from) (moved_expr kind from) s t carries m.elems fine.elems,
            (
              codes_move m.funcs (valid_bodies (answers_of m) m.funcs fine.codes),
              (datas_carried (moved_index kind from) (moved_expr kind from) s t carries m.datas fine.datas, tt),
            ),
          ),
        ),
      ),
    )

    import_comes : first_in 2 0 (import_flaws (lists_of n)) ≡ first_in 2 (length m.imports) (import_flaw m.types m.imports i.desc ∷ [])
    import_comes =
        let rule : List Import → Import → Option Flaw = λ before j. import_flaw m.types before j.desc in
        let before : import_flaws (lists_of m) ≡ behind rule [] m.imports = numbered_behind rule [] m.imports m.imports refl in
        let now : import_flaws (lists_of n) ≡ behind rule [] m.imports ++ rule m.imports i ∷ [] =
        numbered_behind rule [] n.imports n.imports refl ∙ behind_push rule [] m.imports i in
        pushed_in 2 (behind rule [] m.imports) _ _ (length m.imports) now (length-behind rule [] m.imports) (subst AreFine before fine.imports)

    funcs_stay : AreFine (func_flaws (lists_of n))
    funcs_stay = subst (λ xs. AreFine (numbered (λ item x. within UnknownType m.types x) 0 xs)) (sym (types_stay kind from m.funcs)) fine.funcs

    -- the verdict by what is wrong with the import, and with the module's own tables and memories
    verdict_comes : (tables memories : Option Fault) → first_in 4 0 (table_flaws (lists_of n)) ≡ tables → first_in 5 0 (memory_flaws (lists_of n)) ≡ memories
        → module_verdict n ≡ verdict_by (earlier (first_in 2 (length m.imports) (import_flaw m.types m.imports i.desc ∷ [])) (earlier tables memories))
    verdict_comes tables memories tables_are memories_are =
        let k = lists_of n in
        let back = global_flaws k ∷ export_flaws k ∷ start_flaws t n.start ∷ elem_flaws k ∷ code_flaws k n.funcs ∷ data_flaws k ∷ [] in
        sym (module_flaws_are n)
        ∙ ap verdict_by (
        first_behind 1 (type_flaws m.profile k ∷ []) (import_flaws k ∷ func_flaws k ∷ table_flaws k ∷ memory_flaws k ∷ back) (fine.types, tt)
        ∙ ap (earlier (first_in 2 0 (import_flaws k))) (first_behind 3 (func_flaws k ∷ []) (table_flaws k ∷ memory_flaws k ∷ back) (funcs_stay, tt))
        ∙ ap (λ o. earlier o (earlier (first_in 4 0 (table_flaws k)) (earlier (first_in 5 0 (memory_flaws k)) (first_fault 6 back)))) import_comes
        ∙ ap (λ o. earlier (first_in 2 (length m.imports) (import_flaw m.types m.imports i.desc ∷ []))
        (earlier (first_in 4 0 (table_flaws k)) (earlier (first_in 5 0 (memory_flaws k)) o))) (none_from 6 back behind_storage)
        ∙ ap (λ o. earlier (first_in 2 (length m.imports) (import_flaw m.types m.imports i.desc ∷ [])) (earlier (first_in 4 0 (table_flaws k)) o))
        (earlier_none (first_in 5 0 (memory_flaws k)) ∙ memories_are)
        ∙ ap (λ o. earlier (first_in 2 (length m.imports) (import_flaw m.types m.imports i.desc ∷ [])) (earlier o memories)) tables_are
        )

-- ---- tables and memories that the module defines

crowded_tables : (k : ℕ) (ls : List Limits) → AreFine (numbered (λ item l. table_flaw (k + item) l) 0 ls)
    → first_in 4 0 (numbered (λ item l. table_flaw (k + 1 + item) l) 0 ls) ≡ crowded 4 TooManyTables ls
crowded_tables k [] fine = refl
crowded_tables k (l ∷ ls) fine =
    let p = both_none (unless LimitsOrder (in_order l.min l.max)) (alone TooManyTables (k + 0)) fine.0 in
    rw (p.0, le-ltb (k + 1 + 0) 1 (omega arith)) refl

crowded_memories : (k : ℕ) (ls : List Limits) → AreFine (numbered (λ item l. memory_flaw (k + item) l) 0 ls)
    → first_in 5 0 (numbered (λ item l. memory_flaw (k + 1 + item) l) 0 ls) ≡ crowded 5 TooManyMemories ls
crowded_memories k [] fine = refl
crowded_memories k (l ∷ ls) fine =
    let p = both_none (unless LimitsOrder (in_order l.min l.max)) _ fine.0 in
    let q = both_none (unless MemoryRange (in_range l.min l.max)) (alone TooManyMemories (k + 0)) p.1 in
    rw (p.0, q.0, le-ltb (k + 1 + 0) 1 (omega arith)) refl

module _ (m : Parts) (i : Import) (fine : IsFine m) where
  tables_stay : (named : Kind) → table_in i.desc ≡ None → first_in 4 0 (table_flaws (lists_of (after named i m))) ≡ None
  tables_stay named none =
      ap (λ (ls : List Limits). first_in 4 0 (numbered (λ item l. table_flaw (length ls + item) l) 0 m.tables))
      (imported_aside table_in m.imports i none) ∙ none_in 4 0 _ fine.tables

  memories_stay : (named : Kind) → memory_in i.desc ≡ None → first_in 5 0 (memory_flaws (lists_of (after named i m))) ≡ None
  memories_stay named none =
      ap (λ (ls : List Limits). first_in 5 0 (numbered (λ item l. memory_flaw (length ls + item) l) 0 m.memories))
      (imported_aside memory_in m.imports i none) ∙ none_in 5 0 _ fine.memories

  tables_crowd : (l : Limits) → i.desc ≡ desc.Table l → first_in 4 0 (table_flaws (lists_of (after kinds.Table i m))) ≡ crowded 4 TooManyTables m.tables
  tables_crowd l is =
      ap (λ (k : ℕ). first_in 4 0 (numbered (λ item x. table_flaw (k + item) x) 0 m.tables))
      (ap (λ (ls : List Limits). length ls) (imported_last table_in m.imports i l (ap table_in is)) ∙ length-append (imported table_in m.imports) (l ∷ []))
      ∙ crowded_tables (length (imported table_in m.imports)) m.tables fine.tables

  memories_crowd : (l : Limits) → i.desc ≡ desc.Memory l → first_in 5 0 (memory_flaws (lists_of (after kinds.Memory i m)))
      ≡ crowded 5 TooManyMemories m.memories
  memories_crowd l is =
      ap (λ (k : ℕ). first_in 5 0 (numbered (λ item x. memory_flaw (k + item) x) 0 m.memories))
      (ap (λ (ls : List Limits). length ls) (imported_last memory_in m.imports i l (ap memory_in is))
      ∙ length-append (imported memory_in m.imports) (l ∷ []))
      ∙ crowded_memories (length (imported memory_in m.imports)) m.memories fine.memories

-- by what is imported
pub valid_with_import : (m : Parts) (i : Import) (d : ImportDesc) → i.desc ≡ d → module_verdict m ≡ Valid
    → module_verdict (after (desc_kind i.desc) i m) ≡ verdict_by
    (earlier (first_in 2 (length m.imports) (import_flaw m.types m.imports i.desc ∷ [])) (crowded_by i.desc m))
valid_with_import m i (desc.Func x) is valid =
    let fine = valid_fine m valid in
    let sees = subst (λ k. SeesStill k (import_count k m.imports) m (after k i m)) (ap desc_kind (sym is)) (func_sees m i x is) in
    verdict_comes m i fine sees None (crowded_by i.desc m) (tables_stay m i fine (desc_kind i.desc) (ap table_in is))
    (memories_stay m i fine (desc_kind i.desc) (ap memory_in is) ∙ ap (λ d. crowded_by d m) (sym is))
valid_with_import m i (desc.Table l) is valid =
    let fine = valid_fine m valid in
    let sees = subst (λ k. SeesStill k (import_count k m.imports) m (after k i m)) (ap desc_kind (sym is)) (table_sees m i l is) in
    verdict_comes m i fine sees (crowded_by i.desc m) None (tables_crowd m i fine l is ∙ ap (λ d. crowded_by d m) (sym is))
    (memories_stay m i fine (desc_kind i.desc) (ap memory_in is))
    ∙ ap (λ o. verdict_by (earlier (first_in 2 (length m.imports) (import_flaw m.types m.imports i.desc ∷ [])) o)) (earlier_none (crowded_by i.desc m))
valid_with_import m i (desc.Memory l) is valid =
    let fine = valid_fine m valid in
    let sees = subst (λ k. SeesStill k (import_count k m.imports) m (after k i m)) (ap desc_kind (sym is)) (memory_sees m i l is) in
    verdict_comes m i fine sees None (crowded_by i.desc m) (tables_stay m i fine (desc_kind i.desc) (ap table_in is))
    (memories_crowd m i fine l is ∙ ap (λ d. crowded_by d m) (sym is))
valid_with_import m i (desc.Global g) is valid =
    let fine = valid_fine m valid in
    let sees = subst (λ k. SeesStill k (import_count k m.imports) m (after k i m)) (ap desc_kind (sym is)) (global_sees m i g is) in
    verdict_comes m i fine sees None (crowded_by i.desc m) (tables_stay m i fine (desc_kind i.desc) (ap table_in is))
    (memories_stay m i fine (desc_kind i.desc) (ap memory_in is) ∙ ap (λ d. crowded_by d m) (sym is))

pub import_told : (m : Parts) (i : Import) (w : Option Flaw) → import_flaw m.types m.imports i.desc ≡ w → module_verdict m ≡ Valid
    → module_verdict (after (desc_kind i.desc) i m) ≡ verdict_by (earlier (first_in 2 (length m.imports) (w ∷ [])) (crowded_by i.desc m))
import_told m i w is valid =
    valid_with_import m i i.desc refl valid ∙ ap (λ v. verdict_by (earlier (first_in 2 (length m.imports) (v ∷ [])) (crowded_by i.desc m))) is
