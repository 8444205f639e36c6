-- The formats of the items of a module's lists.
use Rattle.std.proofs.Common.{◌≡◌, ℕ, ◌+◌, ◌-◌, ◌^◌, ◌<◌, ◌≤◌, Bool, true, false, cond, eqb, List, [], ◌∷◌, ◌++◌, length, Option, Some, None, Result, Ok, Err}
use Rattle.std.proofs.Common.{refl, sym, ap, ◌∙◌, inl, inr, length-append, arith}
use Rattle.std.proofs.lemmas.Bool.{eqb-true}
use Rattle.std.specs.List.{AllByRecursion}
use Rattle.std.specs.Str.{IsUtf8}
use Rattle.wk_bytes.specs.declared.fault.ReadFault.{ReadFault}
use Rattle.wk_bytes.specs.Leb.{◌>>=◌, SpellsU}
use Rattle.wk_bytes.specs.LebLaws.{IsBytes, bind_ok, chosen, some_is, IsBytes-after, IsBytes-before}
use Rattle.wk_bytes.specs.Short.{short}
use Rattle.wk_bytes.specs.ShortLaws.{short-least}
use Rattle.wk_bytes.specs.Span.{u32_at}
use Rattle.wk_bytes.specs.SpanLaws.{good}
use Rattle.wk_bytes.specs.Stands.{EndsWithSize, Stands}
use Rattle.wk_bytes.specs.StandsLaws.{ReadsFront, Stands-within}
use Rattle.wk_body.specs.declared.types.Profile.{Profile}
use Rattle.wk_body.specs.declared.types.ValType.{ValType}
use Rattle.wk_body.specs.declared.types.ValType.TheVariants.{I32, I64, F32, F64}
use Rattle.wk_body.specs.ValTypes.{valtype_byte, SpellsValType, valtype_of, valtype_at}
use Rattle.wk_body.specs.Bodies.{BodyOf}
use Rattle.wk_body.specs.Reading.{expr_at, all_body_at}
use Rattle.wk_body.specs.Shape.{IsU32}
use Rattle.wk_body.specs.Tree.{Instrs}
use Rattle.wk_body.specs.Written.{enc, written_expr, written_body}
use Rattle.wk_module.specs.declared.types.Limits.{Limits}
use Rattle.wk_module.specs.declared.types.Kind.{Kind}
use Rattle.wk_module.specs.declared.types.Kind.TheVariants as kinds
use Rattle.wk_module.specs.declared.types.ImportDesc.{ImportDesc}
use Rattle.wk_module.specs.declared.types.ImportDesc.TheVariants.{Func, Table, Memory, Global}
use Rattle.wk_module.specs.FormatLaws.{CodeLaws, IsFormat}
use Rattle.wk_module.specs.Formats.{SpellsBoth, both_at, SpellsCoded, coded_at, bytes_at, SpellsBytes}
use Rattle.wk_module.specs.Types.{written_valtype, SpellsFuncType, func_type, functype_at, written_functype, flag_byte, flag_of, has_max, SpellsBounds}
use Rattle.wk_module.specs.Types.{SpellsLimits, without_max, with_max, bounds_at, limits_at, written_bounds, written_limits, IsBound, AreLimits}
use Rattle.wk_module.specs.Types.{SpellsTableType, tabletype_at, written_tabletype, SpellsGlobalType, global_type, globaltype_at, written_globaltype, kind_byte}
use Rattle.wk_module.specs.Types.{kind_of}
use Rattle.wk_module.specs.Items.{desc_kind, SpellsDescRest, SpellsDesc, desc_rest_at, desc_at, written_desc_rest, written_desc, IsDesc, SpellsImport}
use Rattle.wk_module.specs.Items.{import_of, import_at, written_import, IsImport, SpellsInit, IsInit, SpellsGlobal, global_of, global_at, written_global}
use Rattle.wk_module.specs.Items.{IsGlobal, SpellsExport, export_of, export_at, written_export, IsExport, SpellsElem, elem_of, elem_at, written_elem, IsElem}
use Rattle.wk_module.specs.Items.{SpellsCode, code_at, written_code, IsCode, SpellsData, data_of, data_at, written_data, IsData}
use Rattle.wk_module.specs.WritingLaws.{short-rises}
use Rattle.wk_module.proofs.Formats.{IsRest, u32_format, name_format, bytes_format, both_format, made_format, made_front, made_again, made_found, valid_as}
use Rattle.wk_module.proofs.Formats.{vector_format, coded_format, behind_format, keyed_format, read_to, same_read, bytes_parts}

-- ---- value types

valtype_of_byte : (t : ValType) → valtype_of (valtype_byte t) ≡ Some t
valtype_of_byte I32 = refl
valtype_of_byte I64 = refl
valtype_of_byte F32 = refl
valtype_of_byte F64 = refl

byte_of_valtype : (x : ℕ) (t : ValType) → valtype_of x ≡ Some t → x ≡ valtype_byte t
byte_of_valtype x t e =
    elim (chosen (eqb x 127) (Some I32) (cond (eqb x 126) (Some I64) (cond (eqb x 125) (Some F32) (cond (eqb x 124) (Some F64) None))) (Some t) e) [
      | inl p ↦ eqb-true x 127 p.0 ∙ ap valtype_byte (some_is I32 t p.1)
      | inr p ↦ elim (chosen (eqb x 126) (Some I64) (cond (eqb x 125) (Some F32) (cond (eqb x 124) (Some F64) None)) (Some t) p.1) [
        | inl q ↦ eqb-true x 126 q.0 ∙ ap valtype_byte (some_is I64 t q.1)
        | inr q ↦ elim (chosen (eqb x 125) (Some F32) (cond (eqb x 124) (Some F64) None) (Some t) q.1) [
          | inl r ↦ eqb-true x 125 r.0 ∙ ap valtype_byte (some_is F32 t r.1)
          | inr r ↦ elim (chosen (eqb x 124) (Some F64) None (Some t) r.1) [
            | inl s ↦ eqb-true x 124 s.0 ∙ ap valtype_byte (some_is F64 t s.1)
            | inr s ↦ absurd cc
          ]
        ]
      ]
    ]

abbrev IsAny : {A : Type 0} → A → Type 0
IsAny x = Unit {0}

pub valtype_format : IsFormat IsAny SpellsValType valtype_at written_valtype
unfolding valtype_at coded_at
valtype_format = coded_format valtype_byte valtype_of valtype_of_byte byte_of_valtype

-- ---- function types

pub functype_format : IsFormat IsAny SpellsFuncType functype_at written_functype
functype_format =
    let types = vector_format valtype_format in
    made_format func_type (λ t. (t.params, t.results)) (λ x. refl) (λ t. refl)
    (behind_format 0x60 (valid_as IsAny (λ x any. (all_any x.0, all_any x.1)) (λ x both. tt) (both_format types types)))
  where
    all_any : {A : Type 0} (xs : List A) → AllByRecursion IsAny xs
    all_any [] = tt
    all_any (x ∷ xs) = (tt, all_any xs)

-- ---- limits

flag_of_byte : (x : Bool) → flag_of (flag_byte x) ≡ Some x
flag_of_byte false = refl
flag_of_byte true = refl

byte_of_flag : (n : ℕ) (x : Bool) → flag_of n ≡ Some x → n ≡ flag_byte x
byte_of_flag n x e =
    elim (chosen (eqb n 0) (Some false) (cond (eqb n 1) (Some true) None) (Some x) e) [
      | inl p ↦ eqb-true n 0 p.0 ∙ ap flag_byte (some_is false x p.1)
      | inr p ↦ elim (chosen (eqb n 1) (Some true) None (Some x) p.1) [
        | inl q ↦ eqb-true n 1 q.0 ∙ ap flag_byte (some_is true x q.1)
        | inr q ↦ absurd cc
      ]
    ]

flag_format : IsFormat IsAny (SpellsCoded flag_byte) (coded_at flag_of) (λ x. flag_byte x ∷ [])
flag_format = coded_format flag_byte flag_of flag_of_byte byte_of_flag

-- what stands behind the flag
abbrev SpellsLimitsRest : List ℕ → Limits → Type 0
SpellsLimitsRest b l = SpellsBounds b l.min l.max

pair_format : IsFormat (λ (x : ℕ × ℕ). IsU32 x.0 × IsU32 x.1) (SpellsBoth (SpellsU 32) (SpellsU 32)) (both_at u32_at u32_at) (λ x. short x.0 ++ short x.1)
pair_format = both_format u32_format u32_format

bounds_found : (k : Bool) (end : ℕ) (bytes : List ℕ) (l : Limits) (rest : List ℕ) → IsBytes bytes → bounds_at k end bytes ≡ Ok (l, rest)
    → (b : List ℕ) × SpellsLimitsRest b l × (bytes ≡ b ++ rest) × (has_max l.max ≡ k)
unfolding bounds_at
bounds_found false = made_found (λ (l : Limits). has_max l.max) SpellsLimitsRest without_max u32_format (λ b x s. s) false (λ x. refl)
bounds_found true = made_found (λ (l : Limits). has_max l.max) SpellsLimitsRest with_max pair_format (λ b x s. s) true (λ x. refl)

bounds_again : (end : ℕ) (b : List ℕ) (min : ℕ) (most : Option ℕ) (rest : List ℕ) → SpellsBounds b min most
    → bounds_at (has_max most) end (b ++ rest) ≡ Ok (record { min = min; max = most }, rest)
unfolding bounds_at
bounds_again end b min None rest s = made_again without_max u32_at end (b ++ rest) min rest (u32_format.again end b min rest s)
bounds_again end b min (Some most) rest s = made_again with_max (both_at u32_at u32_at) end (b ++ rest) (min, most) rest
    (pair_format.again end b (min, most) rest s)

bounds_front : (k : Bool) → ReadsFront (bounds_at k)
unfolding bounds_at
bounds_front false = made_front without_max u32_at u32_format.fronts
bounds_front true = made_front with_max (both_at u32_at u32_at) pair_format.fronts

bounds_spell : (min : ℕ) (most : Option ℕ) → IsU32 min × IsBound most → length (written_bounds min most) < 2 ^ 32
    → SpellsBounds (written_bounds min most) min most
bounds_spell min None valid fits = u32_format.spells min valid.0 fits
bounds_spell min (Some most) valid fits = pair_format.spells (min, most) valid fits

bounds_least : (b : List ℕ) (min : ℕ) (most : Option ℕ) → SpellsBounds b min most → length (written_bounds min most) ≤ length b
bounds_least b min None s = u32_format.least b min s
bounds_least b min (Some most) s = pair_format.least b (min, most) s

bounds_valid : (b : List ℕ) (min : ℕ) (most : Option ℕ) → IsBytes b → SpellsBounds b min most → IsU32 min × IsBound most
bounds_valid b min None bytes s = (u32_format.valid b min bytes s, tt)
bounds_valid b min (Some most) bytes s = pair_format.valid b (min, most) bytes s

limits_rest : IsRest (λ (l : Limits). has_max l.max) AreLimits SpellsLimitsRest bounds_at (λ l. written_bounds l.min l.max)
limits_rest = record {
  found = bounds_found;
  again = λ end b l rest s. bounds_again end b l.min l.max rest s;
  fronts = bounds_front;
  spells = λ l valid fits. bounds_spell l.min l.max valid fits;
  least = λ b l s. bounds_least b l.min l.max s;
  valid = λ b l bytes s. bounds_valid b l.min l.max bytes s;
}

pub limits_format : IsFormat AreLimits SpellsLimits limits_at written_limits
limits_format = keyed_format (λ (l : Limits). has_max l.max) (λ l valid. tt) flag_format limits_rest

pub tabletype_format : IsFormat AreLimits SpellsTableType tabletype_at written_tabletype
tabletype_format = behind_format 0x70 limits_format

-- ---- global types

pub globaltype_format : IsFormat IsAny SpellsGlobalType globaltype_at written_globaltype
globaltype_format = made_format global_type (λ t. (t.val, t.mutable)) (λ x. refl) (λ t. refl)
    (valid_as IsAny (λ x any. (tt, tt)) (λ x both. tt) (both_format valtype_format flag_format))

-- ---- kinds

kind_of_byte : (k : Kind) → kind_of (kind_byte k) ≡ Some k
kind_of_byte kinds.Func = refl
kind_of_byte kinds.Table = refl
kind_of_byte kinds.Memory = refl
kind_of_byte kinds.Global = refl

byte_of_kind : (n : ℕ) (k : Kind) → kind_of n ≡ Some k → n ≡ kind_byte k
byte_of_kind n k e =
    elim (chosen (eqb n 0) (Some kinds.Func)
    (cond (eqb n 1) (Some kinds.Table) (cond (eqb n 2) (Some kinds.Memory) (cond (eqb n 3) (Some kinds.Global) None))) (Some k) e) [
      | inl p ↦ eqb-true n 0 p.0 ∙ ap kind_byte (some_is kinds.Func k p.1)
      | inr p ↦ elim (chosen (eqb n 1) (Some kinds.Table) (cond (eqb n 2) (Some kinds.Memory) (cond (eqb n 3) (Some kinds.Global) None)) (Some k) p.1) [
        | inl q ↦ eqb-true n 1 q.0 ∙ ap kind_byte (some_is kinds.Table k q.1)
        | inr q ↦ elim (chosen (eqb n 2) (Some kinds.Memory) (cond (eqb n 3) (Some kinds.Global) None) (Some k) q.1) [
          | inl r ↦ eqb-true n 2 r.0 ∙ ap kind_byte (some_is kinds.Memory k r.1)
          | inr r ↦ elim (chosen (eqb n 3) (Some kinds.Global) None (Some k) r.1) [
            | inl s ↦ eqb-true n 3 s.0 ∙ ap kind_byte (some_is kinds.Global k s.1)
            | inr s ↦ absurd cc
          ]
        ]
      ]
    ]

kind_format : IsFormat IsAny (SpellsCoded kind_byte) (coded_at kind_of) (λ k. kind_byte k ∷ [])
kind_format = coded_format kind_byte kind_of kind_of_byte byte_of_kind

-- ---- imports

desc_found : (k : Kind) (end : ℕ) (bytes : List ℕ) (d : ImportDesc) (rest : List ℕ) → IsBytes bytes → desc_rest_at k end bytes ≡ Ok (d, rest)
    → (b : List ℕ) × SpellsDescRest b d × (bytes ≡ b ++ rest) × (desc_kind d ≡ k)
unfolding desc_rest_at
desc_found kinds.Func = made_found desc_kind SpellsDescRest Func u32_format (λ b x s. s) kinds.Func (λ x. refl)
desc_found kinds.Table = made_found desc_kind SpellsDescRest Table tabletype_format (λ b x s. s) kinds.Table (λ x. refl)
desc_found kinds.Memory = made_found desc_kind SpellsDescRest Memory limits_format (λ b x s. s) kinds.Memory (λ x. refl)
desc_found kinds.Global = made_found desc_kind SpellsDescRest Global globaltype_format (λ b x s. s) kinds.Global (λ x. refl)

desc_again : (end : ℕ) (b : List ℕ) (d : ImportDesc) (rest : List ℕ) → SpellsDescRest b d → desc_rest_at (desc_kind d) end (b ++ rest) ≡ Ok (d, rest)
unfolding desc_rest_at
desc_again end b (Func x) rest s = made_again Func u32_at end (b ++ rest) x rest (u32_format.again end b x rest s)
desc_again end b (Table l) rest s = made_again Table tabletype_at end (b ++ rest) l rest (tabletype_format.again end b l rest s)
desc_again end b (Memory l) rest s = made_again Memory limits_at end (b ++ rest) l rest (limits_format.again end b l rest s)
desc_again end b (Global t) rest s = made_again Global globaltype_at end (b ++ rest) t rest (globaltype_format.again end b t rest s)

desc_front : (k : Kind) → ReadsFront (desc_rest_at k)
unfolding desc_rest_at
desc_front kinds.Func = made_front Func u32_at u32_format.fronts
desc_front kinds.Table = made_front Table tabletype_at tabletype_format.fronts
desc_front kinds.Memory = made_front Memory limits_at limits_format.fronts
desc_front kinds.Global = made_front Global globaltype_at globaltype_format.fronts

desc_spells : (d : ImportDesc) → IsDesc d → length (written_desc_rest d) < 2 ^ 32 → SpellsDescRest (written_desc_rest d) d
desc_spells (Func x) valid fits = u32_format.spells x valid fits
desc_spells (Table l) valid fits = tabletype_format.spells l valid fits
desc_spells (Memory l) valid fits = limits_format.spells l valid fits
desc_spells (Global t) valid fits = globaltype_format.spells t valid fits

desc_least : (b : List ℕ) (d : ImportDesc) → SpellsDescRest b d → length (written_desc_rest d) ≤ length b
desc_least b (Func x) s = u32_format.least b x s
desc_least b (Table l) s = tabletype_format.least b l s
desc_least b (Memory l) s = limits_format.least b l s
desc_least b (Global t) s = globaltype_format.least b t s

desc_valid : (b : List ℕ) (d : ImportDesc) → IsBytes b → SpellsDescRest b d → IsDesc d
desc_valid b (Func x) bytes s = u32_format.valid b x bytes s
desc_valid b (Table l) bytes s = tabletype_format.valid b l bytes s
desc_valid b (Memory l) bytes s = limits_format.valid b l bytes s
desc_valid b (Global t) bytes s = globaltype_format.valid b t bytes s

pub desc_format : IsFormat IsDesc SpellsDesc desc_at written_desc
desc_format = keyed_format desc_kind (λ d valid. tt) kind_format
    (record { found = desc_found; again = desc_again; fronts = desc_front; spells = desc_spells; least = desc_least; valid = desc_valid })

pub import_format : IsFormat IsImport SpellsImport import_at written_import
import_format =
    made_format import_of (λ i. (i.from, (i.name, i.desc))) (λ x. refl) (λ i. refl)
    (valid_as (λ x. IsUtf8 x.0 × IsUtf8 x.1.0 × IsDesc x.1.1) (λ x valid. (valid.0, (valid.1, valid.2))) (λ x valid. (valid.0, valid.1.0, valid.1.1))
    (both_format name_format (both_format name_format desc_format)))

-- ---- exports

pub export_format : IsFormat IsExport SpellsExport export_at written_export
export_format =
    made_format export_of (λ e. (e.name, (e.kind, e.index))) (λ x. refl) (λ e. refl)
    (valid_as (λ x. IsUtf8 x.0 × IsU32 x.1.1) (λ x valid. (valid.0, (tt, valid.1))) (λ x valid. (valid.0, valid.1.1))
    (both_format name_format (both_format kind_format u32_format)))

-- ---- of a profile

expr_some : (t : Instrs) → 0 < length (written_expr t)
expr_some t = omega (arith, length-append (enc t) (0x0B ∷ []))

module _ (profile : Profile) (laws : CodeLaws profile) where
  -- ---- expressions

  init_format : IsFormat (IsInit profile) (SpellsInit profile) (expr_at profile) written_expr
  init_format = record {
    found = laws.expr.takes;
    again = λ end b t rest s. laws.expr.again end t b rest s;
    fronts = laws.expr.stands;
    some = expr_some;
    spells = λ t valid fits. laws.expr_written t valid.0 valid.1;
    least = λ b t s. laws.expr_least t b s;
    valid = λ b t bytes s. laws.expr_shape t b bytes s;
  }

  -- ---- globals

  pub global_format : IsFormat (IsGlobal profile) (SpellsGlobal profile) (global_at profile) written_global
  global_format =
      made_format global_of (λ g. (g.ty, g.init)) (λ x. refl) (λ g. refl)
      (valid_as (λ x. IsInit profile x.1) (λ x valid. (tt, valid)) (λ x valid. valid.1) (both_format globaltype_format init_format))

  -- ---- element segments

  pub elem_format : IsFormat (IsElem profile) (SpellsElem profile) (elem_at profile) written_elem
  elem_format =
      made_format elem_of (λ e. (e.table, (e.offset, e.funcs))) (λ x. refl) (λ e. refl)
      (valid_as (λ x. IsU32 x.0 × IsInit profile x.1.0 × AllByRecursion IsU32 x.1.1) (λ x valid. (valid.0, (valid.1, valid.2)))
      (λ x valid. (valid.0, valid.1.0, valid.1.1)) (both_format u32_format (both_format init_format (vector_format u32_format))))

  -- ---- data segments

  pub data_format : IsFormat (IsData profile) (SpellsData profile) (data_at profile) written_data
  data_format =
      made_format data_of (λ d. (d.memory, (d.offset, d.bytes))) (λ x. refl) (λ d. refl)
      (valid_as (λ x. IsU32 x.0 × IsInit profile x.1.0) (λ x valid. (valid.0, (valid.1, tt))) (λ x valid. (valid.0, valid.1.0))
      (both_format u32_format (both_format init_format bytes_format)))

  -- ---- codes

  -- what is read of the code behind its size
  abbrev sized_at : ℕ → List ℕ × List ℕ → Result (BodyOf × List ℕ) ReadFault
  sized_at end code = all_body_at profile (end - length code.1) code.0 >>= λ body. Ok (body, code.1)

  -- the steps of reading one
  code_steps : (end : ℕ) (bytes : List ℕ) (body : BodyOf) (rest : List ℕ) → code_at profile end bytes ≡ Ok (body, rest)
      → (code : List ℕ) × (bytes_at end bytes ≡ Ok (code, rest)) × (all_body_at profile (end - length rest) code ≡ Ok body)
  unfolding code_at
  code_steps end bytes body rest e =
      let a = bind_ok (bytes_at end bytes) (sized_at end) (body, rest) e in
      let b = bind_ok (all_body_at profile (end - length a.0.1) a.0.0) (λ body. Ok (body, a.0.1)) (body, rest) a.2 in
      let same = same_read b.0 body a.0.1 rest b.2 in
      (a.0.0, a.1 ∙ ap (read_to a.0.0) same.1, ap (λ (later : List ℕ). all_body_at profile (end - length later) a.0.0) (sym same.1) ∙ b.1 ∙ ap good same.0)

  code_found : (end : ℕ) (bytes : List ℕ) (body : BodyOf) (rest : List ℕ) → IsBytes bytes → code_at profile end bytes ≡ Ok (body, rest)
      → (b : List ℕ) × SpellsCode profile b body × (bytes ≡ b ++ rest)
  code_found end bytes body rest fits e =
      let m = code_steps end bytes body rest e in
      let f = bytes_format.found end bytes m.0 rest fits m.1 in
      let fits_code : IsBytes m.0 = IsBytes-after f.1.size m.0 f.0 f.1.parts (IsBytes-before f.0 rest bytes f.2 fits) in (
        f.0,
        record {
          size = f.1.size;
          code = m.0;
          parts = f.1.parts;
          counts = f.1.counts;
          spelled =
              laws.body.takes (end - length rest) m.0 body fits_code m.2;
        },
        f.2,
      )

  code_again : (end : ℕ) (b : List ℕ) (body : BodyOf) (rest : List ℕ) → SpellsCode profile b body → code_at profile end (b ++ rest) ≡ Ok (body, rest)
  unfolding code_at
  code_again end b body rest s =
      let sized : SpellsBytes b s.code = record { size = s.size; parts = s.parts; counts = s.counts } in
      rw (bytes_format.again end b s.code rest sized, laws.body.again (end - length rest) body s.code s.spelled) refl

  code_takes : (end : ℕ) (bytes : List ℕ) (body : BodyOf) (rest : List ℕ) → code_at profile end bytes ≡ Ok (body, rest)
      → (front : List ℕ) × (bytes ≡ front ++ rest)
  code_takes end bytes body rest e = let m = code_steps end bytes body rest e in bytes_format.fronts.takes end bytes m.0 rest m.1

  -- a fault of the code within the bytes
  body_stands : (end : ℕ) (bytes code rest : List ℕ) (e : ReadFault) → (size : List ℕ) × (bytes ≡ size ++ (code ++ rest)) × EndsWithSize size (length code) → length bytes ≤ end
      → all_body_at profile (end - length rest) code ≡ Err e → Stands (record { rest = bytes; end = end }) e
  body_stands end bytes code rest e parts fits h =
      let long : length bytes ≡ length parts.0 + (length code + length rest) =
      omega (arith, ap length parts.1, length-append parts.0 (code ++ rest), length-append code rest) in
      Stands-within parts.0 rest (record { rest = bytes; end = end }) (record { rest = code; end = end - length rest }) e parts.1 (omega arith) fits parts.2
      (laws.body.stands (end - length rest) code e h (omega arith))

  body_fault : (end : ℕ) (bytes code rest : List ℕ) (e : ReadFault) (r : Result BodyOf ReadFault)
      → (size : List ℕ) × (bytes ≡ size ++ (code ++ rest)) × EndsWithSize size (length code) → length bytes ≤ end → all_body_at profile (end - length rest) code ≡ r → (r >>= λ body. read_to body rest) ≡ Err e
      → Stands (record { rest = bytes; end = end }) e
  body_fault end bytes code rest e (Ok body) parts fits is h = absurd cc
  body_fault end bytes code rest e (Err d) parts fits is h = body_stands end bytes code rest e parts fits (is ∙ cc)

  sized_fault : (end : ℕ) (bytes : List ℕ) (e : ReadFault) (r : Result (List ℕ × List ℕ) ReadFault) → bytes_at end bytes ≡ r
      → (r >>= sized_at end) ≡ Err e → length bytes ≤ end → Stands (record { rest = bytes; end = end }) e
  sized_fault end bytes e (Err d) is h fits = bytes_format.fronts.faults end bytes e (is ∙ cc) fits
  sized_fault end bytes e (Ok code) is h fits = body_fault end bytes code.0 code.1 e (all_body_at profile (end - length code.1) code.0)
      (bytes_parts end bytes code.0 code.1 is) fits refl h

  code_fault : (end : ℕ) (bytes : List ℕ) (e : ReadFault) → code_at profile end bytes ≡ Err e → length bytes ≤ end
      → Stands (record { rest = bytes; end = end }) e
  unfolding code_at
  code_fault end bytes e h fits = sized_fault end bytes e (bytes_at end bytes) refl h fits

  pub code_format : IsFormat (IsCode profile) (SpellsCode profile) (code_at profile) written_code
  code_format = record {
    found = code_found;
    again = code_again;
    fronts = record { takes = code_takes; faults = code_fault };
    some = λ body. bytes_format.some (written_body body);
    spells = λ body valid fits.
        let sized = bytes_format.spells (written_body body) tt fits in
        record {
          size = sized.size;
          code = written_body body;
          parts = sized.parts;
          counts = sized.counts;
          spelled =
              laws.body_written body valid.0 valid.1.0 valid.1.1;
        };
    least = λ b body s.
        let code : length (written_body body) ≤ length s.code = laws.body_least body s.code s.spelled in
        omega (
          arith,
          code,
          length-append (short (length (written_body body))) (written_body body),
          ap length s.parts,
          length-append s.size s.code,
          short-rises (length (written_body body)) (length s.code) code,
          short-least 32 (length s.code) s.size s.counts,
        );
    valid = λ b body bytes s.
        let code = IsBytes-after s.size s.code b s.parts bytes in (
          s.spelled.groups,
          laws.expr_shape body.instrs s.spelled.code
              (IsBytes-after s.spelled.locals s.spelled.code s.code s.spelled.parts code) s.spelled.spelled,
        );
  }
