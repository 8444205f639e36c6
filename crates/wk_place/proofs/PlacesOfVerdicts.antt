-- The fault of a module's verdict has a place.
use Rattle.std.proofs.Common.{◌≡◌, ◌≢◌, ◌⊎◌, ℕ, suc, ◌+◌, ◌<◌, inl, inr, List, [], ◌∷◌, length, map, take, ltb}
use Rattle.std.proofs.Common.{Option, Some, None, refl, sym, ap, subst, ◌∙◌, arith}
use Rattle.std.proofs.lemmas.List.{length-map}
use Rattle.wk_bytes.specs.Leb.{SpellsU}
use Rattle.wk_bytes.specs.LebLaws.{IsBytes, some_is}
use Rattle.wk_bytes.specs.Span.{Span}
use Rattle.wk_body.specs.declared.types.Profile.{Profile}
use Rattle.wk_body.specs.Vectors.{SpellsItems, SpellsVector}
use Rattle.wk_module.specs.declared.types.Func.{Func}
use Rattle.wk_module.specs.declared.types.Parts.{Parts}
use Rattle.wk_module.specs.Items.{SpellsImport, SpellsGlobal, SpellsExport, SpellsElem, SpellsCode, SpellsData}
use Rattle.wk_module.specs.Formats.{SpellsBytes}
use Rattle.wk_module.specs.Modules.{Spells}
use Rattle.wk_module.specs.Reading.{section_end}
use Rattle.wk_module.specs.Sections.{TypeSection, ImportSection, FunctionSection, TableSection, MemorySection, GlobalSection, ExportSection, StartSection}
use Rattle.wk_module.specs.Sections.{ElementSection, CodeSection, DataSection, SpellsStart}
use Rattle.wk_module.specs.Shape.{lists_of}
use Rattle.wk_module.specs.Types.{SpellsFuncType, SpellsLimits, SpellsTableType}
use Rattle.wk_typing.specs.declared.fault.Fault.{Fault}
use Rattle.wk_typing.specs.declared.fault.FaultKind.TheVariants.{UnknownFunc, StartType, UnknownType}
use Rattle.wk_typing.specs.declared.fault.Flaw.{Flaw}
use Rattle.wk_typing.specs.declared.fault.Verdict.TheVariants.{Invalid}
use Rattle.wk_typing.specs.Faults.{fault_at, body_flaw}
use Rattle.wk_typing.specs.Typing.{count}
use Rattle.wk_check.specs.Flaws.{numbered, first_in, verdict_by}
use Rattle.wk_check.specs.Items.{earlier, unless, is_start, start_flaw, start_flaws, type_flaw, import_flaw, within, table_flaw, memory_flaw, global_flaw, export_flaw}
use Rattle.wk_check.specs.Items.{elem_flaw, data_flaw}
use Rattle.wk_body.specs.declared.references.Ref.{Ref}
use Rattle.wk_body.specs.declared.references.Ref.TheVariants as refs
use Rattle.wk_typing.specs.Answers.{Found}
use Rattle.wk_check.specs.Spaces.{Spaces, answer_in, spaces_of, initial_spaces, imported, table_in, memory_in}
use Rattle.wk_check.specs.Verdict.{type_flaws, import_flaws, func_flaws, table_flaws, memory_flaws, global_flaws, export_flaws, elem_flaws}
use Rattle.wk_check.specs.Verdict.{data_flaws, front_fault, code_fault, func_verdict, module_verdict}
use Rattle.wk_typing.specs.declared.fault.Place.{Place}
use Rattle.wk_place.specs.declared.place.Located.{Located}
use Rattle.wk_place.specs.Places.{IsBehindItems, IsPlaceAt}
use Rattle.wk_place.proofs.FoundFuncs.{IsLocated}
use Rattle.wk_place.proofs.FaultTokens.{AreBelow, below_earlier, below_unless, below_constant, below_body}
use Rattle.wk_place.proofs.FoundInstrs.{at_span}
use Rattle.wk_place.proofs.ModulePlaces.{Standing, There, Placed, TokenPlace, section_there, placed, list_place, list_place_at, no_tokens}
use Rattle.wk_place.proofs.VerdictPlaces.{below_type, below_table, below_memory, below_import, below_export, below_elem, below_data, global_tokens, elem_tokens}
use Rattle.wk_place.proofs.VerdictPlaces.{data_tokens, code_tokens, sized_reach}

earlier_is : (x y : Option Fault) (f : Fault) → earlier x y ≡ Some f → (x ≡ Some f) ⊎ (y ≡ Some f)
earlier_is (Some g) y f h = inl h
earlier_is None y f h = inr h

invalid_is : (o : Option Fault) (f : Fault) → verdict_by o ≡ Invalid f → o ≡ Some f
invalid_is None f h = absurd cc
invalid_is (Some g) f h = ap (λ (x : Fault). Some x) (same g f h)
  where
    same : (g f : Fault) → Invalid g ≡ Invalid f → g ≡ f
    same g f h = cc

below_within : {X : Type 0} (space : List X) (x : ℕ) → AreBelow 0 (within UnknownType space x)
below_within space x = below_unless 0 UnknownType (ltb x (length space))

below_start : (s : Spaces) (x : ℕ) → AreBelow 0 (start_flaw s x)
below_start s x =
    let known = ltb x (length s.funcs) in
    let fits = is_start (answer_in s (refs.Func x)) in
    below_earlier 0 (unless UnknownFunc known) (unless StartType fits) (below_unless 0 UnknownFunc known) (below_unless 0 StartType fits)

module _ (b : List ℕ) (m : Parts) (spelled : Spells b m) (fits : IsBytes b) where
  abbrev At : Fault → Type 0
  At f = Placed b m spelled fits m.profile f.place

  -- ---- sections whose items hold no instructions

  type_place : (f : Fault) → first_in 1 0 (type_flaws m.profile (lists_of m)) ≡ Some f → At f
  type_place f h =
      list_place b m spelled fits m.profile TypeSection SpellsFuncType (λ i t. type_flaw m.profile t) (λ t. 0) m.types f (spelled.sections TypeSection)
      (λ i c r behind. behind) (λ i t. below_type m.profile t) (no_tokens b m spelled fits m.profile TypeSection SpellsFuncType) h

  import_place : (f : Fault) → first_in 2 0 (import_flaws (lists_of m)) ≡ Some f → At f
  import_place f h =
      list_place b m spelled fits m.profile ImportSection SpellsImport (λ item i. import_flaw m.types (take item m.imports) i.desc) (λ i. 0) m.imports f
      (spelled.sections ImportSection) (λ i c r behind. behind)
      (λ item i. below_import (length m.types) (length (imported table_in (take item m.imports))) (length (imported memory_in (take item m.imports))) i.desc)
      (no_tokens b m spelled fits m.profile ImportSection SpellsImport) h

  func_place : (f : Fault) → first_in 3 0 (func_flaws (lists_of m)) ≡ Some f → At f
  func_place f h =
      list_place b m spelled fits m.profile FunctionSection (SpellsU 32) (λ item x. within UnknownType m.types x) (λ x. 0) (map (λ f. f.ty) m.funcs) f
      (spelled.sections FunctionSection) (λ i c r behind. behind) (λ item x. below_within m.types x)
      (no_tokens b m spelled fits m.profile FunctionSection (SpellsU 32)) h

  table_place : (f : Fault) → first_in 4 0 (table_flaws (lists_of m)) ≡ Some f → At f
  table_place f h =
      list_place b m spelled fits m.profile TableSection SpellsTableType (λ item t. table_flaw (length (imported table_in m.imports) + item) t) (λ t. 0)
      m.tables f (spelled.sections TableSection) (λ i c r behind. behind)
      (λ item t. below_table (length (imported table_in m.imports) + item) t) (no_tokens b m spelled fits m.profile TableSection SpellsTableType) h

  memory_place : (f : Fault) → first_in 5 0 (memory_flaws (lists_of m)) ≡ Some f → At f
  memory_place f h =
      list_place b m spelled fits m.profile MemorySection SpellsLimits (λ item t. memory_flaw (length (imported memory_in m.imports) + item) t) (λ t. 0)
      m.memories f (spelled.sections MemorySection) (λ i c r behind. behind)
      (λ item t. below_memory (length (imported memory_in m.imports) + item) t) (no_tokens b m spelled fits m.profile MemorySection SpellsLimits) h

  export_place : (f : Fault) → first_in 7 0 (export_flaws (lists_of m)) ≡ Some f → At f
  export_place f h =
      list_place b m spelled fits m.profile ExportSection SpellsExport (λ item e. export_flaw (spaces_of (lists_of m)) (take item m.exports) e) (λ e. 0)
      m.exports f (spelled.sections ExportSection) (λ i c r behind. behind)
      (λ item e. below_export (spaces_of (lists_of m)) (take item m.exports) e) (no_tokens b m spelled fits m.profile ExportSection SpellsExport) h

  -- ---- the start section

  start_here : (s : Spaces) (x : ℕ) (f : Fault) (o : Option Flaw) → start_flaw s x ≡ o → m.start ≡ Some x → first_in 8 0 (o ∷ []) ≡ Some f → At f
  start_here s x f None is start h = absurd cc
  start_here s x f (Some w) is start h =
      let none : m.start ≢ None = λ e. some_none x (sym start ∙ e) in
      let there = section_there b m spelled fits StartSection SpellsStart None m.start (spelled.sections StartSection) none in
      let place = at_span (section_end there.0) there.0.contents in
      placed b m spelled fits m.profile StartSection 0 0 place w f
      (record { section = there.0; is_section = there.1; id = there.2; reaches = (refl, refl); ends = refl }) (below_start s x w is)
      (λ n lt. absurd (omega (arith, lt))) (sym (some_is (fault_at 8 0 w) f h))
    where
      some_none : (x : ℕ) → Some x ≡ None → ⊥
      some_none x e = absurd cc

  start_by : (o : Option ℕ) (f : Fault) → m.start ≡ o → first_in 8 0 (start_flaws (spaces_of (lists_of m)) o) ≡ Some f → At f
  start_by None f start h = absurd cc
  start_by (Some x) f start h = start_here (spaces_of (lists_of m)) x f (start_flaw (spaces_of (lists_of m)) x) refl start h

  -- ---- sections whose items hold instructions

  global_place : (f : Fault) → first_in 6 0 (global_flaws (lists_of m)) ≡ Some f → At f
  global_place f h =
      let A = answer_in (initial_spaces (lists_of m)) in
      list_place b m spelled fits m.profile GlobalSection (SpellsGlobal m.profile) (λ item g. global_flaw A g) (λ g. suc (count g.init)) m.globals f
      (spelled.sections GlobalSection) (λ i c r behind. behind) (λ item g. below_constant A g.ty.val g.init) (global_tokens b m spelled fits m.profile) h

  elem_place : (f : Fault) → first_in 9 0 (elem_flaws (lists_of m)) ≡ Some f → At f
  elem_place f h =
      let s = spaces_of (lists_of m) in
      list_place b m spelled fits m.profile ElementSection (SpellsElem m.profile) (λ item e. elem_flaw s e) (λ e. suc (count e.offset)) m.elems f
      (spelled.sections ElementSection) (λ i c r behind. behind) (λ item e. below_elem s e) (elem_tokens b m spelled fits m.profile) h

  data_place : (f : Fault) → first_in 11 0 (data_flaws (lists_of m)) ≡ Some f → At f
  data_place f h =
      let s = spaces_of (lists_of m) in
      list_place b m spelled fits m.profile DataSection (SpellsData m.profile) (λ item d. data_flaw s d) (λ d. suc (count d.offset)) m.datas f
      (spelled.sections DataSection) (λ i c r behind. behind) (λ item d. below_data s d) (data_tokens b m spelled fits m.profile) h

  -- the code of a function
  abbrev SpellsFunc : List ℕ → Func → Type 0
  SpellsFunc c f = SpellsCode m.profile c f.body

  func_items : (c : List ℕ) (funcs : List Func) → SpellsItems (SpellsCode m.profile) c (map (λ f. f.body) funcs) → SpellsItems SpellsFunc c funcs
  func_items c [] s = s
  func_items c (f ∷ fs) s = (s.0, s.1, s.2, s.3, func_items s.1 fs s.4)

  body_items : (c : List ℕ) (funcs : List Func) → SpellsItems SpellsFunc c funcs → SpellsItems (SpellsCode m.profile) c (map (λ f. f.body) funcs)
  body_items c [] s = s
  body_items c (f ∷ fs) s = (s.0, s.1, s.2, s.3, body_items s.1 fs s.4)

  no_bodies : (funcs : List Func) → map (λ f. f.body) funcs ≡ [] → funcs ≡ []
  no_bodies [] e = refl
  no_bodies (f ∷ fs) e = absurd (omega (arith, ap length e))

  funcs_there : m.funcs ≢ [] → There b m spelled fits CodeSection (SpellsVector SpellsFunc) m.funcs
  funcs_there some =
      let bodies = map (λ f. f.body) m.funcs in
      let there = section_there b m spelled fits CodeSection (SpellsVector (SpellsCode m.profile)) [] bodies (spelled.sections CodeSection)
      (λ e. some (no_bodies m.funcs e)) in
      let v = there.3 in (
        there.0,
        there.1,
        there.2,
        record {
          count = v.count;
          items = v.items;
          parts = v.parts;
          counts = subst (SpellsU 32 v.count) (length-map m.funcs (λ f. f.body)) v.counts;
          spelled = func_items v.items m.funcs v.spelled;
        },
      )

  funcs_reach : (item : ℕ) (contents rest : List ℕ) → IsBehindItems SpellsFunc item contents rest → IsBehindItems SpellsBytes item contents rest
  funcs_reach item contents rest h = sized_reach b m spelled fits m.profile item contents rest (record {
    count = h.count;
    items = h.items;
    n = h.n;
    before = map (λ f. f.body) h.before;
    parts = h.parts;
    counts = h.counts;
    spelled = body_items h.items h.before h.spelled;
    number = length-map h.before (λ f. f.body) ∙ h.number;
    within = h.within;
  })

  funcs_tokens : (item : ℕ) (f : Func) (st : Standing m.profile b CodeSection item SpellsFunc f) (n : ℕ) → n < suc (count f.body.instrs)
      → TokenPlace b m spelled fits m.profile CodeSection st.place n
  funcs_tokens item f st n lt =
      let body : Standing m.profile b CodeSection item (SpellsCode m.profile) f.body =
      record { place = st.place; own = st.own; more = st.more; there = st.there; parts = st.parts; spelled = st.spelled; fits = st.fits } in
      code_tokens b m spelled fits m.profile item f.body body n lt

  flaws_numbered : (A : Ref → Found) (i : ℕ) (funcs : List Func) → map body_flaw (map (func_verdict A) funcs) ≡ numbered (λ item f. body_flaw (func_verdict A f)) i funcs
  flaws_numbered A i [] = refl
  flaws_numbered A i (f ∷ fs) = ap (λ ws. body_flaw (func_verdict A f) ∷ ws) (flaws_numbered A (i + 1) fs)

  code_place : (f : Fault) → code_fault m ≡ Some f → At f
  code_place f h =
      let A = answer_in (spaces_of (lists_of m)) in
      list_place_at b m spelled fits m.profile CodeSection SpellsFunc (λ item g. body_flaw (func_verdict A g)) (λ g. suc (count g.body.instrs)) m.funcs f
      funcs_there funcs_reach (λ item g. below_body A g.ty g.body) funcs_tokens (ap (first_in 10 0) (sym (flaws_numbered A 0 m.funcs)) ∙ h)

  -- ---- the first of all

  front_place : (f : Fault) → front_fault m.profile (lists_of m) ≡ Some f → At f
  front_place f h =
      elim (earlier_is _ _ f h) [
        | inl e ↦ type_place f e
        | inr h ↦ elim (earlier_is _ _ f h) [
          | inl e ↦ import_place f e
          | inr h ↦ elim (earlier_is _ _ f h) [
            | inl e ↦ func_place f e
            | inr h ↦ elim (earlier_is _ _ f h) [
              | inl e ↦ table_place f e
              | inr h ↦ elim (earlier_is _ _ f h) [
                | inl e ↦ memory_place f e
                | inr h ↦ elim (earlier_is _ _ f h) [
                  | inl e ↦ global_place f e
                  | inr h ↦ elim (earlier_is _ _ f h) [
                    | inl e ↦ export_place f e
                    | inr h ↦ elim (earlier_is _ _ f h) [
                      | inl e ↦ start_by m.start f refl e
                      | inr h ↦ elim (earlier_is _ _ f h) [
                        | inl e ↦ elem_place f e
                        | inr e ↦ absurd cc
                      ]
                    ]
                  ]
                ]
              ]
            ]
          ]
        ]
      ]

  pub verdict_place : (f : Fault) → module_verdict m ≡ Invalid f → At f
  verdict_place f h =
      let front = front_fault m.profile (lists_of m) in
      let code = code_fault m in
      let last = first_in 11 0 (data_flaws (lists_of m)) in
      elim (earlier_is front (earlier code last) f (invalid_is (earlier front (earlier code last)) f h)) [
        | inl e ↦ front_place f e
        | inr h ↦ elim (earlier_is code last f h) [ inl e ↦ code_place f e | inr e ↦ data_place f e ]
      ]

-- where a place is, it is told
located_some : (profile : Profile) (b : List ℕ) (p : Place) (r : Option Located) (place : Span) → IsLocated profile b p r → IsPlaceAt profile b p place
    → r ≢ None
located_some profile b p None place none at = absurd (none place at)
located_some profile b p (Some l) place there at = λ e. absurd cc

-- so that of the fault of a verdict is
pub verdict_located : (profile : Profile) (b : List ℕ) (m : Parts) (f : Fault) (r : Option Located) → IsBytes b → m.profile ≡ profile → Spells b m
    → module_verdict m ≡ Invalid f → IsLocated profile b f.place r → r ≢ None
verdict_located profile b m f r fits same spelled wrong told =
    let at = verdict_place b m spelled fits f wrong in
    located_some profile b f.place r at.0 told (subst (λ (p : Profile). IsPlaceAt p b f.place at.0) same at.1)

-- where there is no such place, nothing is wrong
pub verdict_unread : (profile : Profile) (b : List ℕ) (m : Parts) (f : Fault) → IsBytes b → m.profile ≡ profile → Spells b m → module_verdict m ≡ Invalid f
    → ((place : Span) → IsPlaceAt profile b f.place place → ⊥) → ⊥
verdict_unread profile b m f fits same spelled wrong none =
    let at = verdict_place b m spelled fits f wrong in
    none at.0 (subst (λ (p : Profile). IsPlaceAt p b f.place at.0) same at.1)
