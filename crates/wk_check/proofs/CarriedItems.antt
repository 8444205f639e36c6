-- Where each index and each constant expression of a module is carried to one that is as good, nothing goes wrong with what names them.
use Rattle.std.proofs.Common.{◌≡◌, ℕ, ◌<◌, Bool, true, if◌then◌else◌, List, [], ◌∷◌, length, map, take, Option, Some, None, refl, ap, ◌∙◌}
use Rattle.std.proofs.lemmas.List.{take-map}
use Rattle.std.specs.List.{AllByRecursion, list_any}
use Rattle.std.specs.Str.{bytes_eq}
use Rattle.wk_body.specs.declared.references.Ref.TheVariants as refs
use Rattle.wk_body.specs.declared.types.ValType.{ValType}
use Rattle.wk_body.specs.declared.types.ValType.TheVariants.{I32}
use Rattle.wk_body.specs.Tree.{Instrs}
use Rattle.wk_module.specs.declared.types.Export.{Export}
use Rattle.wk_module.specs.declared.types.Elem.{Elem}
use Rattle.wk_module.specs.declared.types.DataSeg.{DataSeg}
use Rattle.wk_module.specs.declared.types.Kind.{Kind}
use Rattle.wk_module.specs.declared.types.Kind.TheVariants as kinds
use Rattle.wk_typing.specs.declared.fault.FaultKind.TheVariants.{UnknownFunc, UnknownTable, UnknownMemory, DuplicateExport, StartType}
use Rattle.wk_typing.specs.Constants.{constant_flaw}
use Rattle.wk_check.specs.Flaws.{numbered, AreFine}
use Rattle.wk_check.specs.Items.{flaw, unless, within, all_within, elem_flaw, data_flaw, index_flaw, export_flaw, is_start, start_flaws}
use Rattle.wk_check.specs.Spaces.{Spaces, answer_in}
use Rattle.wk_check.proofs.FlawLists.{fine_map}
use Rattle.wk_check.proofs.Valid.{both_none, none_both, unless_true, within_less, less_within, all_less, less_all}

any_map : {X : Type 0} (test : X → Bool) (h : X → X) → ((x : X) → test (h x) ≡ test x) → (xs : List X) → list_any test (map h xs) ≡ list_any test xs
any_map test h same [] = refl
any_map test h same (x ∷ xs) = rw (same x, any_map test h same xs) refl

-- from some spaces to others
pub record Carries (index : Kind → ℕ → ℕ) (expr : Instrs → Instrs) (s t : Spaces) : Type 0 where
  pub indexes : (kind : Kind) (x : ℕ) → index_flaw s kind x ≡ None → index_flaw t kind (index kind x) ≡ None
  pub constants : (ty : ValType) (is : Instrs) → constant_flaw (answer_in s) ty is ≡ None → constant_flaw (answer_in t) ty (expr is) ≡ None
  pub starts : (x : ℕ) → is_start (answer_in s (refs.Func x)) ≡ true → is_start (answer_in t (refs.Func (index kinds.Func x))) ≡ true

module _ (index : Kind → ℕ → ℕ) (expr : Instrs → Instrs) where
  abbrev pub carried_export : Export → Export
  carried_export e = record e { index = index e.kind e.index }

  abbrev pub carried_start : Option ℕ → Option ℕ
  carried_start None = None
  carried_start (Some x) = Some (index kinds.Func x)

  abbrev pub carried_elem : Elem → Elem
  carried_elem e = record { table = index kinds.Table e.table; offset = expr e.offset; funcs = map (index kinds.Func) e.funcs }

  abbrev pub carried_data : DataSeg → DataSeg
  carried_data d = record d { memory = index kinds.Memory d.memory; offset = expr d.offset }

  module _ (s t : Spaces) (carries : Carries index expr s t) where
    export_carried : (item : ℕ) (es : List Export) (e : Export) → export_flaw s (take item es) e ≡ None
        → export_flaw t (take item (map carried_export es)) (carried_export e) ≡ None
    export_carried item es e none =
        let test : Export → Bool = λ d. bytes_eq d.name e.name in
        let p = both_none (index_flaw s e.kind e.index) _ none in
        let same : list_any test (take item (map carried_export es)) ≡ list_any test (take item es) =
        ap (list_any test) (take-map carried_export item es) ∙ any_map test carried_export (λ d. refl) (take item es) in
        none_both _ _ (carries.indexes e.kind e.index p.0) (ap (λ (b : Bool). if b then flaw DuplicateExport else None) same ∙ p.1)

    pub exports_carried : (es : List Export) → AreFine (numbered (λ item e. export_flaw s (take item es) e) 0 es)
        → AreFine (numbered (λ item e. export_flaw t (take item (map carried_export es)) e) 0 (map carried_export es))
    exports_carried es = fine_map _ _ carried_export (λ item e. export_carried item es e) 0 es

    pub start_carried : (o : Option ℕ) → AreFine (start_flaws s o) → AreFine (start_flaws t (carried_start o))
    start_carried None fine = tt
    start_carried (Some x) fine =
        let p = both_none (within UnknownFunc s.funcs x) (unless StartType (is_start (answer_in s (refs.Func x)))) fine.0 in (
          none_both _ _ (carries.indexes kinds.Func x p.0)
              (ap (unless StartType) (carries.starts x (unless_true StartType (is_start (answer_in s (refs.Func x))) p.1))),
          tt,
        )

    funcs_carried : (xs : List ℕ) → AllByRecursion (λ x. x < length s.funcs) xs → AllByRecursion (λ x. x < length t.funcs) (map (index kinds.Func) xs)
    funcs_carried [] all = tt
    funcs_carried (x ∷ xs) all =
        (within_less UnknownFunc t.funcs (index kinds.Func x) (carries.indexes kinds.Func x (less_within UnknownFunc s.funcs x all.0)), funcs_carried xs all.1)

    elem_carried : (e : Elem) → elem_flaw s e ≡ None → elem_flaw t (carried_elem e) ≡ None
    elem_carried e none =
        let p = both_none (within UnknownTable s.tables e.table) _ none in
        let q = both_none (constant_flaw (answer_in s) I32 e.offset) (unless UnknownFunc (all_within (length s.funcs) e.funcs)) p.1 in
        let inside = all_less (length s.funcs) e.funcs (unless_true UnknownFunc (all_within (length s.funcs) e.funcs) q.1) in
        none_both _ _ (carries.indexes kinds.Table e.table p.0)
        (none_both _ _ (carries.constants I32 e.offset q.0)
        (ap (unless UnknownFunc) (less_all (length t.funcs) (map (index kinds.Func) e.funcs) (funcs_carried e.funcs inside))))

    pub elems_carried : (es : List Elem) → AreFine (numbered (λ item e. elem_flaw s e) 0 es)
        → AreFine (numbered (λ item e. elem_flaw t e) 0 (map carried_elem es))
    elems_carried es = fine_map _ _ carried_elem (λ item e. elem_carried e) 0 es

    data_carried : (d : DataSeg) → data_flaw s d ≡ None → data_flaw t (carried_data d) ≡ None
    data_carried d none =
        let p = both_none (within UnknownMemory s.memories d.memory) (constant_flaw (answer_in s) I32 d.offset) none in
        none_both _ _ (carries.indexes kinds.Memory d.memory p.0) (carries.constants I32 d.offset p.1)

    pub datas_carried : (ds : List DataSeg) → AreFine (numbered (λ item d. data_flaw s d) 0 ds)
        → AreFine (numbered (λ item d. data_flaw t d) 0 (map carried_data ds))
    datas_carried ds = fine_map _ _ carried_data (λ item d. data_carried d) 0 ds
