-- The fault of a module's verdict, section by section.
use Rattle.std.proofs.Common.{◌≡◌, ℕ, suc, ◌-◌, ◌<◌, List, [], ◌∷◌, ◌++◌, length, ltb, if◌then◌else◌, Bool, true}
use Rattle.std.proofs.Common.{false, None, refl, sym, ap, subst, ◌∙◌, append_assoc}
use Rattle.std.proofs.lemmas.List.{append-nil}
use Rattle.wk_bytes.specs.Leb.{SpellsU}
use Rattle.wk_bytes.specs.LebLaws.{IsBytes, IsBytes-after}
use Rattle.wk_bytes.specs.Span.{Span}
use Rattle.wk_body.specs.declared.types.Profile.{Profile}
use Rattle.wk_body.specs.declared.types.Profile.TheVariants.{Core, Extended}
use Rattle.wk_body.specs.declared.types.ValType.TheVariants.{I32}
use Rattle.wk_body.specs.Vectors.{SpellsItems}
use Rattle.wk_body.specs.Bodies.{BodyOf}
use Rattle.wk_body.specs.Spelling.{SpellsExpr}
use Rattle.wk_body.specs.Tree.{Instrs}
use Rattle.wk_module.specs.declared.types.DataSeg.{DataSeg}
use Rattle.wk_module.specs.declared.types.Elem.{Elem}
use Rattle.wk_module.specs.declared.types.Export.{Export}
use Rattle.wk_module.specs.declared.types.FuncType.{FuncType}
use Rattle.wk_module.specs.declared.types.GlobalDef.{GlobalDef}
use Rattle.wk_module.specs.declared.types.ImportDesc.{ImportDesc}
use Rattle.wk_module.specs.declared.types.ImportDesc.TheVariants as desc
use Rattle.wk_module.specs.declared.types.Kind.{Kind}
use Rattle.wk_module.specs.declared.types.Kind.TheVariants as kinds
use Rattle.wk_module.specs.declared.types.Limits.{Limits}
use Rattle.wk_module.specs.declared.types.Parts.{Parts}
use Rattle.wk_module.specs.Items.{SpellsGlobal, SpellsElem, SpellsCode, SpellsData}
use Rattle.wk_module.specs.Modules.{Spells}
use Rattle.wk_module.specs.Sections.{SectionId, GlobalSection}
use Rattle.wk_module.specs.Sections.{ElementSection, CodeSection, DataSection}
use Rattle.wk_module.specs.Types.{SpellsGlobalType}
use Rattle.wk_module.specs.Formats.{SpellsBytes}
use Rattle.wk_typing.specs.declared.fault.FaultKind.{FaultKind}
use Rattle.wk_typing.specs.Typing.{count}
use Rattle.wk_typing.specs.declared.fault.FaultKind.TheVariants.{LimitsOrder, MemoryRange, TooManyMemories, UnknownFunc, UnknownTable, UnknownMemory}
use Rattle.wk_typing.specs.Constants.{constant_flaw}
use Rattle.wk_check.specs.Items.{earlier, unless, in_order, in_range, all_within, flaw, type_flaw, import_flaw_by, table_flaw, memory_flaw, export_flaw, index_flaw, elem_flaw, data_flaw}
use Rattle.wk_check.specs.Spaces.{Spaces, answer_in}
use Rattle.wk_place.specs.Places.{IsBehind, IsBehindItems, IsInBody, HoldsInstrs}
use Rattle.wk_place.proofs.FaultTokens.{AreBelow, below_earlier, below_none, below_unless, below_constant}
use Rattle.wk_place.proofs.FoundInstrs.{at_span}
use Rattle.wk_place.proofs.FoundPlaces.{code_fits}
use Rattle.wk_place.proofs.ModulePlaces.{Standing, TokenPlace}
use Rattle.wk_place.proofs.TreeTokens.{expr_token}

-- ---- what the flaws of items name

pub below_type : (profile : Profile) (t : FuncType) → AreBelow 0 (type_flaw profile t)
below_type Core t = below_unless 0 _ _
below_type Extended t = below_none 0

pub below_table : (n : ℕ) (l : Limits) → AreBelow 0 (table_flaw n l)
below_table n l = below_earlier 0 _ _ (below_unless 0 _ _) (below_unless 0 _ _)

pub below_memory : (n : ℕ) (l : Limits) → AreBelow 0 (memory_flaw n l)
below_memory n l =
    let sized = unless MemoryRange (in_range l.min l.max) in
    let alone = unless TooManyMemories (ltb n 1) in
    below_earlier 0 (unless LimitsOrder (in_order l.min l.max)) (earlier sized alone) (below_unless 0 LimitsOrder (in_order l.min l.max))
    (below_earlier 0 sized alone (below_unless 0 MemoryRange (in_range l.min l.max)) (below_unless 0 TooManyMemories (ltb n 1)))

pub below_import : (types tables memories : ℕ) (d : ImportDesc) → AreBelow 0 (import_flaw_by types tables memories d)
below_import types tables memories (desc.Func x) = below_unless 0 _ _
below_import types tables memories (desc.Table l) = below_table tables l
below_import types tables memories (desc.Memory l) = below_memory memories l
below_import types tables memories (desc.Global g) = below_none 0

pub below_index : (s : Spaces) (kind : Kind) (x : ℕ) → AreBelow 0 (index_flaw s kind x)
below_index s kinds.Func x = below_unless 0 _ _
below_index s kinds.Table x = below_unless 0 _ _
below_index s kinds.Memory x = below_unless 0 _ _
below_index s kinds.Global x = below_unless 0 _ _

below_flaw : (kind : FaultKind) → AreBelow 0 (flaw kind)
below_flaw kind = below_unless 0 kind false

below_twice : (kind : FaultKind) (b : Bool) → AreBelow 0 (if b then flaw kind else None)
below_twice kind true = below_flaw kind
below_twice kind false = below_none 0

pub below_export : (s : Spaces) (before : List Export) (e : Export) → AreBelow 0 (export_flaw s before e)
below_export s before e = below_earlier 0 _ _ (below_index s e.kind e.index) (below_twice _ _)

pub below_elem : (s : Spaces) (e : Elem) → AreBelow (suc (count e.offset)) (elem_flaw s e)
below_elem s e =
    let bound = suc (count e.offset) in
    let table = ltb e.table (length s.tables) in
    let funcs = all_within (length s.funcs) e.funcs in
    let offset = constant_flaw (answer_in s) I32 e.offset in
    below_earlier bound (unless UnknownTable table) (earlier offset (unless UnknownFunc funcs)) (below_unless bound UnknownTable table)
    (below_earlier bound offset (unless UnknownFunc funcs) (below_constant (answer_in s) I32 e.offset) (below_unless bound UnknownFunc funcs))

pub below_data : (s : Spaces) (d : DataSeg) → AreBelow (suc (count d.offset)) (data_flaw s d)
below_data s d =
    let bound = suc (count d.offset) in
    let memory = ltb d.memory (length s.memories) in
    let offset = constant_flaw (answer_in s) I32 d.offset in
    below_earlier bound (unless UnknownMemory memory) offset (below_unless bound UnknownMemory memory) (below_constant (answer_in s) I32 d.offset)

-- ---- the instructions of items that hold some

module _ (b : List ℕ) (m : Parts) (spelled : Spells b m) (fits : IsBytes b) (profile : Profile) where
  -- an expression, where this is in front of it
  expr_place : {A : Type 0} (k : SectionId) (Front : List ℕ → A → Type 0) (item : Span) (front expr more : List ℕ) (x : A) (e : Instrs) (n : ℕ)
      → ((code : Span) → IsBehind Front item code → HoldsInstrs k item code) → Front front x → SpellsExpr profile e expr
      → item.rest ≡ front ++ (expr ++ more) → IsBytes item.rest → n < suc (count e) → TokenPlace b m spelled fits profile k item n
  expr_place k Front item front expr more x e n holds head s parts bytes lt =
      let code = at_span item.end (expr ++ more) in
      let t = expr_token profile e expr more n code s refl (IsBytes-after front (expr ++ more) item.rest parts bytes) lt in
      (t.1, (code, t.0, holds code (front, x, head, parts, refl), t.2))

  pub global_tokens : (item : ℕ) (g : GlobalDef) (st : Standing profile b GlobalSection item (SpellsGlobal profile) g) (n : ℕ) → n < suc (count g.init)
      → TokenPlace b m spelled fits profile GlobalSection st.place n
  global_tokens item g st n lt =
      let own = st.spelled in
      let parts : st.place.rest ≡ own.front ++ (own.later ++ st.more) =
      st.parts ∙ ap (λ (c : List ℕ). c ++ st.more) own.parts ∙ append_assoc own.front own.later st.more in
      expr_place GlobalSection SpellsGlobalType st.place own.front own.later st.more g.ty g.init n (λ code h. h) own.first own.second parts st.fits lt

  pub elem_tokens : (item : ℕ) (e : Elem) (st : Standing profile b ElementSection item (SpellsElem profile) e) (n : ℕ) → n < suc (count e.offset)
      → TokenPlace b m spelled fits profile ElementSection st.place n
  elem_tokens item e st n lt =
      let own = st.spelled in
      let rest = own.second in
      let parts : st.place.rest ≡ own.front ++ (rest.front ++ (rest.later ++ st.more)) =
      st.parts ∙ ap (λ (c : List ℕ). c ++ st.more) own.parts ∙ append_assoc own.front own.later st.more
      ∙ ap (λ (c : List ℕ). own.front ++ (c ++ st.more)) rest.parts ∙ ap (λ (c : List ℕ). own.front ++ c) (append_assoc rest.front rest.later st.more) in
      expr_place ElementSection (SpellsU 32) st.place own.front rest.front (rest.later ++ st.more) e.table e.offset n (λ code h. h) own.first rest.first
      parts st.fits lt

  pub data_tokens : (item : ℕ) (d : DataSeg) (st : Standing profile b DataSection item (SpellsData profile) d) (n : ℕ) → n < suc (count d.offset)
      → TokenPlace b m spelled fits profile DataSection st.place n
  data_tokens item d st n lt =
      let own = st.spelled in
      let rest = own.second in
      let parts : st.place.rest ≡ own.front ++ (rest.front ++ (rest.later ++ st.more)) =
      st.parts ∙ ap (λ (c : List ℕ). c ++ st.more) own.parts ∙ append_assoc own.front own.later st.more
      ∙ ap (λ (c : List ℕ). own.front ++ (c ++ st.more)) rest.parts ∙ ap (λ (c : List ℕ). own.front ++ c) (append_assoc rest.front rest.later st.more) in
      expr_place DataSection (SpellsU 32) st.place own.front rest.front (rest.later ++ st.more) d.memory d.offset n (λ code h. h) own.first rest.first
      parts st.fits lt

  pub code_tokens : (item : ℕ) (body : BodyOf) (st : Standing profile b CodeSection item (SpellsCode profile) body) (n : ℕ) → n < suc (count body.instrs)
      → TokenPlace b m spelled fits profile CodeSection st.place n
  code_tokens item body st n lt =
      let own = st.spelled in
      let in_body = own.spelled in
      let code = at_span (st.place.end - length st.more) in_body.code in
      let parts : st.place.rest ≡ own.size ++ ((in_body.locals ++ in_body.code) ++ st.more) =
      st.parts ∙ ap (λ (c : List ℕ). c ++ st.more) own.parts ∙ append_assoc own.size own.code st.more
      ∙ ap (λ (c : List ℕ). own.size ++ (c ++ st.more)) in_body.parts in
      let holds : IsInBody st.place code = record {
        size = own.size;
        locals = in_body.locals;
        later = st.more;
        groups = body.groups;
        parts = parts;
        counts = subst (λ (c : List ℕ). SpellsU 32 own.size (length c)) in_body.parts own.counts;
        grouped = record { grouped = in_body.grouped; are_groups = in_body.groups };
        ends = refl;
      } in
      let code_bytes : IsBytes in_body.code = code_fits CodeSection st.place code st.fits holds in
      let t = expr_token profile body.instrs in_body.code [] n code in_body.spelled (sym (append-nil in_body.code)) code_bytes lt in
      (t.1, (code, t.0, holds, t.2))

  -- ---- codes, of which the sizes alone are asked

  sized_items : (c : List ℕ) (bodies : List BodyOf) → SpellsItems (SpellsCode profile) c bodies
      → (codes : List (List ℕ)) × SpellsItems SpellsBytes c codes × (length codes ≡ length bodies)
  sized_items c [] s = ([], s, refl)
  sized_items c (body ∷ bodies) s =
      let more = sized_items s.1 bodies s.4 in
      let own = s.3 in
      (own.code ∷ more.0, (s.0, s.1, s.2, record { size = own.size; parts = own.parts; counts = own.counts }, more.1), ap suc more.2)

  pub sized_reach : (item : ℕ) (contents rest : List ℕ) → IsBehindItems (SpellsCode profile) item contents rest → IsBehindItems SpellsBytes item contents rest
  sized_reach item contents rest h =
      let codes = sized_items h.items h.before h.spelled in
      record {
        count = h.count;
        items = h.items;
        n = h.n;
        before = codes.0;
        parts = h.parts;
        counts = h.counts;
        spelled = codes.1;
        number = codes.2 ∙ h.number;
        within = h.within;
      }
