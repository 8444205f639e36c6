-- The verdict is valid exactly where the module is.
use Rattle.std.proofs.Common.{◌≡◌, ℕ, ◌+◌, ◌<◌, nat_lt, Bool, true, false, if◌then◌else◌, List, [], ◌∷◌, length, map, Option, Some, None}
use Rattle.std.proofs.Common.{refl, ap, subst, ◌∙◌, inl, inr}
use Rattle.std.proofs.lemmas.Bool.{cases_Bool, lt-ltb, ltb-true}
use Rattle.std.specs.Prelude.{◌↔◌}
use Rattle.std.specs.List.{AllByRecursion}
use Rattle.wk_body.specs.declared.references.Ref.{Ref}
use Rattle.wk_body.specs.declared.types.ValType.TheVariants.{I32}
use Rattle.wk_module.specs.declared.types.Func.{Func}
use Rattle.wk_module.specs.declared.types.GlobalDef.{GlobalDef}
use Rattle.wk_module.specs.declared.types.Elem.{Elem}
use Rattle.wk_module.specs.declared.types.DataSeg.{DataSeg}
use Rattle.wk_module.specs.declared.types.Parts.{Parts}
use Rattle.wk_module.specs.Shape.{lists_of}
use Rattle.wk_typing.specs.declared.fault.BodyVerdict.{BodyVerdict}
use Rattle.wk_typing.specs.declared.fault.BodyVerdict.TheVariants as bodies
use Rattle.wk_typing.specs.declared.fault.FaultKind.{FaultKind}
use Rattle.wk_typing.specs.declared.fault.FaultKind.TheVariants.{UnknownTable, UnknownMemory, UnknownFunc}
use Rattle.wk_typing.specs.declared.fault.Flaw.{Flaw}
use Rattle.wk_typing.specs.declared.fault.Fault.{Fault}
use Rattle.wk_typing.specs.declared.fault.Verdict.{Verdict}
use Rattle.wk_typing.specs.declared.fault.Verdict.TheVariants.{Valid, Invalid}
use Rattle.wk_typing.specs.Answers.{Found}
use Rattle.wk_typing.specs.Constants.{constant_flaw}
use Rattle.wk_check.specs.ConstantRules.{IsConstantOf}
use Rattle.wk_typing.specs.Derives.{IsDerived}
use Rattle.wk_check.specs.Flaws.{numbered, AreFine, IsFirst}
use Rattle.wk_typing.specs.Faults.{body_flaw}
use Rattle.wk_check.specs.Items.{earlier, unless, within, all_within, global_flaw, start_flaws, elem_flaw, data_flaw}
use Rattle.wk_check.specs.Spaces.{Spaces, answer_in, spaces_of, initial_spaces}
use Rattle.wk_typing.specs.Typing.{body_verdict}
use Rattle.wk_check.specs.Valid.{IsValidElem, IsValidData, IsValidModule}
use Rattle.wk_check.specs.Verdict.{type_flaws, import_flaws, func_flaws, table_flaws, memory_flaws, global_flaws, export_flaws, elem_flaws, code_flaws}
use Rattle.wk_check.specs.Verdict.{data_flaws, func_verdict, module_flaws, IsVerdict}
use Rattle.wk_typing.proofs.All.{back}
use Rattle.wk_check.proofs.ConstantRules.{constant_derived, derived_constant}
use Rattle.wk_typing.proofs.Sound.{valid_derived, derived_valid}

-- ---- bodies

pub is_valid : (v : BodyVerdict) → body_flaw v ≡ None → v ≡ bodies.Valid
is_valid bodies.Valid fine = refl
is_valid (bodies.Invalid kind token) fine = absurd cc

abbrev AreDerived : (Ref → Found) → List Func → Type 0
AreDerived A funcs = AllByRecursion (λ (f : Func). IsDerived A f.ty f.body) funcs

are_derived : (A : Ref → Found) (funcs : List Func) → AreFine (map body_flaw (map (func_verdict A) funcs)) → AreDerived A funcs
are_derived A [] fine = tt
are_derived A (f ∷ funcs) fine =
    (valid_derived A f.ty f.body (body_verdict A f.ty f.body) refl (is_valid (body_verdict A f.ty f.body) fine.0), are_derived A funcs fine.1)

derived_fine : (A : Ref → Found) (funcs : List Func) → AreDerived A funcs → AreFine (map body_flaw (map (func_verdict A) funcs))
derived_fine A [] derived = tt
derived_fine A (f ∷ funcs) derived =
    (ap body_flaw (derived_valid A f.ty f.body (body_verdict A f.ty f.body) refl derived.0), derived_fine A funcs derived.1)

-- ---- items

-- no item has a flaw by a rule exactly where each is as it should be
module _ {X : Type 0} (rule : ℕ → X → Option Flaw) (P : X → Type 0) where
  pub from_fine : ((item : ℕ) (x : X) → rule item x ≡ None → P x) → (item : ℕ) (xs : List X) → AreFine (numbered rule item xs) → AllByRecursion P xs
  from_fine each item [] fine = tt
  from_fine each item (x ∷ xs) fine = (each item x fine.0, from_fine each (item + 1) xs fine.1)

  pub to_fine : ((item : ℕ) (x : X) → P x → rule item x ≡ None) → (item : ℕ) (xs : List X) → AllByRecursion P xs → AreFine (numbered rule item xs)
  to_fine each item [] all = tt
  to_fine each item (x ∷ xs) all = (each item x all.0, to_fine each (item + 1) xs all.1)

pub both_none : {X : Type 0} (a b : Option X) → earlier a b ≡ None → (a ≡ None) × (b ≡ None)
both_none None b e = (refl, e)
both_none (Some x) b e = absurd cc

pub none_both : {X : Type 0} (a b : Option X) → a ≡ None → b ≡ None → earlier a b ≡ None
none_both a b ea eb = ap (λ x. earlier x b) ea ∙ eb

pub unless_true : (kind : FaultKind) (b : Bool) → unless kind b ≡ None → b ≡ true
unless_true kind true e = refl
unless_true kind false e = absurd cc

pub within_less : {X : Type 0} (kind : FaultKind) (space : List X) (x : ℕ) → within kind space x ≡ None → x < length space
within_less kind space x e = ltb-true x (length space) (unless_true kind (nat_lt x (length space)) e)

pub less_within : {X : Type 0} (kind : FaultKind) (space : List X) (x : ℕ) → x < length space → within kind space x ≡ None
less_within kind space x h = ap (unless kind) (lt-ltb x (length space) h)

pub all_less : (n : ℕ) (xs : List ℕ) → all_within n xs ≡ true → AllByRecursion (λ x. x < n) xs
all_less n [] e = tt
all_less n (x ∷ xs) e =
    elim (cases_Bool (nat_lt x n)) [
      | inl t ↦ (ltb-true x n t, all_less n xs (rw t at e))
      | inr f ↦ let wrong : false ≡ true = rw f at e in absurd cc
    ]

pub less_all : (n : ℕ) (xs : List ℕ) → AllByRecursion (λ x. x < n) xs → all_within n xs ≡ true
less_all n [] all = refl
less_all n (x ∷ xs) all =
    ap (λ (b : Bool). if b then all_within n xs else false) (lt-ltb x n all.0) ∙ less_all n xs all.1

module _ (s : Spaces) where
  elem_is_valid : (e : Elem) → elem_flaw s e ≡ None → IsValidElem s e
  elem_is_valid e none =
      let p = both_none (within UnknownTable s.tables e.table)
      (earlier (constant_flaw (answer_in s) I32 e.offset) (unless UnknownFunc (all_within (length s.funcs) e.funcs))) none in
      let q = both_none (constant_flaw (answer_in s) I32 e.offset) (unless UnknownFunc (all_within (length s.funcs) e.funcs)) p.1 in
      record {
        table = within_less UnknownTable s.tables e.table p.0;
        offset = constant_derived (answer_in s) I32 e.offset q.0;
        funcs = all_less (length s.funcs) e.funcs (unless_true UnknownFunc (all_within (length s.funcs) e.funcs) q.1);
      }

  valid_elem : (e : Elem) → IsValidElem s e → elem_flaw s e ≡ None
  valid_elem e valid =
      none_both _ _ (less_within UnknownTable s.tables e.table valid.table)
      (none_both _ _ (derived_constant (answer_in s) I32 e.offset valid.offset) (ap (unless UnknownFunc) (less_all (length s.funcs) e.funcs valid.funcs)))

  data_is_valid : (d : DataSeg) → data_flaw s d ≡ None → IsValidData s d
  data_is_valid d none =
      let p = both_none (within UnknownMemory s.memories d.memory) (constant_flaw (answer_in s) I32 d.offset) none in
      record {
        memory = within_less UnknownMemory s.memories d.memory p.0;
        offset = constant_derived (answer_in s) I32 d.offset p.1;
      }

  valid_data : (d : DataSeg) → IsValidData s d → data_flaw s d ≡ None
  valid_data d valid =
      none_both _ _ (less_within UnknownMemory s.memories d.memory valid.memory) (derived_constant (answer_in s) I32 d.offset valid.offset)

-- ---- modules

-- nothing is wrong with a module, section by section
pub record IsFine (m : Parts) : Type 0 where
  pub types : AreFine (type_flaws m.profile (lists_of m))
  pub imports : AreFine (import_flaws (lists_of m))
  pub funcs : AreFine (func_flaws (lists_of m))
  pub tables : AreFine (table_flaws (lists_of m))
  pub memories : AreFine (memory_flaws (lists_of m))
  pub globals : AreFine (global_flaws (lists_of m))
  pub exports : AreFine (export_flaws (lists_of m))
  pub start : AreFine (start_flaws (spaces_of (lists_of m)) m.start)
  pub elems : AreFine (elem_flaws (lists_of m))
  pub codes : AreFine (code_flaws (lists_of m) m.funcs)
  pub datas : AreFine (data_flaws (lists_of m))

pub by_sections : (m : Parts) → AllByRecursion AreFine (module_flaws m) → IsFine m
by_sections m a =
    let b = a.1.1.1.1.1.1 in
    record {
      types = a.0;
      imports = a.1.0;
      funcs = a.1.1.0;
      tables = a.1.1.1.0;
      memories = a.1.1.1.1.0;
      globals = a.1.1.1.1.1.0;
      exports = b.0;
      start = b.1.0;
      elems = b.1.1.0;
      codes = b.1.1.1.0;
      datas = b.1.1.1.1.0;
    }

no_first : (flaws : List (List (Option Flaw))) (fault : Fault) → AllByRecursion AreFine flaws → IsFirst 1 flaws fault → ⊥
no_first flaws fault fine first =
    let sections = back AreFine first.sections_before _ (subst (AllByRecursion AreFine) first.parts fine) in
    let items = back (λ w. w ≡ None) first.items_before _ sections.0 in
    absurd (cc items.0)

module _ (m : Parts) where
  abbrev spaces : Spaces
  spaces = spaces_of (lists_of m)

  abbrev initial : Ref → Found
  initial = answer_in (initial_spaces (lists_of m))

  fine_valid : AllByRecursion AreFine (module_flaws m) → IsValidModule m
  fine_valid all =
      let fine = by_sections m all in
      record {
        types = fine.types;
        imports = fine.imports;
        funcs = fine.funcs;
        tables = fine.tables;
        memories = fine.memories;
        globals = from_fine (λ item (g : GlobalDef). global_flaw initial g) (λ (g : GlobalDef). IsConstantOf initial g.ty.val g.init)
            (λ item (g : GlobalDef). constant_derived initial g.ty.val g.init) 0 m.globals fine.globals;
        exports = fine.exports;
        start = fine.start;
        elems = from_fine (λ item (e : Elem). elem_flaw spaces e) (IsValidElem spaces) (λ item. elem_is_valid spaces) 0 m.elems fine.elems;
        bodies = are_derived (answer_in spaces) m.funcs fine.codes;
        datas = from_fine (λ item (d : DataSeg). data_flaw spaces d) (IsValidData spaces) (λ item. data_is_valid spaces) 0 m.datas fine.datas;
      }

  valid_fine : IsValidModule m → AllByRecursion AreFine (module_flaws m)
  valid_fine valid =
      let globals = to_fine (λ item (g : GlobalDef). global_flaw initial g) (λ (g : GlobalDef). IsConstantOf initial g.ty.val g.init)
      (λ item (g : GlobalDef). derived_constant initial g.ty.val g.init) 0 m.globals valid.globals in
      let elems = to_fine (λ item (e : Elem). elem_flaw spaces e) (IsValidElem spaces) (λ item. valid_elem spaces) 0 m.elems valid.elems in
      let codes = derived_fine (answer_in spaces) m.funcs valid.bodies in
      let datas = to_fine (λ item (d : DataSeg). data_flaw spaces d) (IsValidData spaces) (λ item. valid_data spaces) 0 m.datas valid.datas in
      (valid.types, (valid.imports, (valid.funcs, (valid.tables, (valid.memories, (globals, (valid.exports, (valid.start, (elems, (codes, (datas, tt)))))))))))

pub valid_exactly : (m : Parts) (v : Verdict) → IsVerdict m v → v ≡ Valid ↔ IsValidModule m
valid_exactly m Valid fine = (λ is. fine_valid m fine, λ valid. refl)
valid_exactly m (Invalid fault) first = (λ is. absurd cc, λ valid. absurd (no_first (module_flaws m) fault (valid_fine m valid) first))
