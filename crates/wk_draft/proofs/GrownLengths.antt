-- An edit makes a module longer by no more than its room.
use Rattle.std.proofs.Common.{◌≡◌, ℕ, zero, suc, ◌+◌, ◌*◌, ◌≤◌, List, [], ◌∷◌, ◌++◌, length, map, refl, ap, arith, length-append}
use Rattle.std.proofs.lemmas.List.{length-map, map_push}
use Rattle.std.specs.List.{flat_map}
use Rattle.wk_bytes.specs.Frames.{limit}
use Rattle.wk_bytes.specs.Short.{short}
use Rattle.wk_body.specs.declared.types.ValType.{ValType}
use Rattle.wk_body.specs.Bodies.{BodyOf}
use Rattle.wk_body.specs.Tree.{Instrs}
use Rattle.wk_body.specs.Vectors.{written_vector}
use Rattle.wk_body.specs.Written.{written_expr, written_body}
use Rattle.wk_module.specs.declared.types.Export.{Export}
use Rattle.wk_module.specs.declared.types.Func.{Func}
use Rattle.wk_module.specs.declared.types.FuncType.{FuncType}
use Rattle.wk_module.specs.declared.types.GlobalDef.{GlobalDef}
use Rattle.wk_module.specs.declared.types.GlobalType.{GlobalType}
use Rattle.wk_module.specs.declared.types.Parts.{Parts}
use Rattle.wk_module.specs.Changes.{with_type, with_func, with_body, with_global, with_export}
use Rattle.wk_module.specs.ChangeLaws.{funcs_given, types_given}
use Rattle.wk_module.specs.Formats.{written_bytes}
use Rattle.wk_module.specs.Items.{written_code, written_global, written_export}
use Rattle.wk_module.specs.Sections.{SectionId, TypeSection, FunctionSection, GlobalSection, ExportSection, CodeSection, contents}
use Rattle.wk_module.specs.Shape.{lists_of}
use Rattle.wk_module.specs.Types.{written_valtype, written_functype, written_globaltype, kind_byte}
use Rattle.wk_module.specs.Writing.{written_section, encoded}
use Rattle.wk_session.specs.declared.edit.Edit.TheVariants as edits
use Rattle.wk_draft.specs.Steps.{edit_room}
use Rattle.wk_draft.proofs.SectionGrowth.{bodies_of, short_sum, short_eighth, short_five, list_section, pushed_section, changed_section, only}
use Rattle.wk_draft.proofs.SectionGrowth.{length-encoded_more}

-- by how many bytes a section is longer with one more item of that many bytes
abbrev pushed_by : ℕ → ℕ
pushed_by n = n + length (short (1 + n)) + 4

-- one that is made of one more function
pushed_func : {A : Type 0} (id : ℕ) (written : A → List ℕ) (part : Func → A) (fs : List Func) (f : Func)
    → length (list_section id written (map part (fs ++ f ∷ []))) ≤ length (list_section id written (map part fs)) + pushed_by (length (written (part f)))
pushed_func {A = A} id written part fs f =
    omega (
      arith,
      pushed_section id written (map part fs) (part f),
      ap (λ (xs : List A). length (list_section id written xs)) (map_push part fs f),
    )

-- ---- types

valtypes_length : (ts : List ValType) → length (flat_map written_valtype ts) ≡ length ts
valtypes_length [] = omega arith
valtypes_length (t ∷ ts) = omega (arith, valtypes_length ts)

functype_length : (t : FuncType) → 8 * length (written_functype t) ≤ 24 + 9 * (length t.params + length t.results)
functype_length t =
    let params = written_vector written_valtype t.params in
    let results = written_vector written_valtype t.results in
    omega (
      arith,
      length-append params results,
      length-append (short (length t.params)) (flat_map written_valtype t.params),
      length-append (short (length t.results)) (flat_map written_valtype t.results),
      valtypes_length t.params,
      valtypes_length t.results,
      short_eighth (length t.params),
      short_eighth (length t.results),
    )

each_of_type : (t : FuncType) (d : Parts) (k : SectionId) → length (written_section k (contents (lists_of (with_type t d)) k))
    ≤ length (written_section k (contents (lists_of d) k)) + only TypeSection (pushed_by (length (written_functype t))) k
each_of_type t d TypeSection = omega (arith, pushed_section 1 written_functype d.types t)
each_of_type t d _ = omega arith

pub type_grown : (t : FuncType) (d : Parts) → length (encoded (with_type t d)) ≤ length (encoded d) + edit_room (edits.Ty t)
type_grown t d =
    let n = length (written_functype t) in
    omega (arith, length-encoded_more (with_type t d) d (only TypeSection (pushed_by n)) refl (each_of_type t d), functype_length t, short_eighth (1 + n))

-- ---- functions

code_length : (b : BodyOf) (most : ℕ) → length (written_body b) ≤ most → 8 * length (written_code b) ≤ 8 + 9 * most
code_length b most le =
    let n = length (written_body b) in
    omega (arith, length-append (short n) (written_body b), short_eighth n)

abbrev by_func : ℕ → BodyOf → SectionId → ℕ
by_func t b k = only FunctionSection (pushed_by (length (short t))) k + only CodeSection (pushed_by (length (written_code b))) k

each_of_func : (t : ℕ) (b : BodyOf) (d : Parts) (k : SectionId)
    → length (written_section k (contents (lists_of (with_func t b d)) k)) ≤ length (written_section k (contents (lists_of d) k)) + by_func t b k
each_of_func t b d FunctionSection = omega (arith, pushed_func 3 short (λ f. f.ty) d.funcs (record { ty = t; body = b }))
each_of_func t b d CodeSection = omega (arith, pushed_func 10 written_code (λ f. f.body) d.funcs (record { ty = t; body = b }))
each_of_func t b d _ = omega arith

pub func_grown : (t : ℕ) (b : BodyOf) (code : List ℕ) (d : Parts) → length (written_body b) ≤ length code → length (short t) ≤ limit
    → length (encoded (with_func t b d)) ≤ length (encoded d) + edit_room (edits.Func t code)
func_grown t b code d le few =
    omega (
      arith,
      length-encoded_more (with_func t b d) d (by_func t b) refl (each_of_func t b d),
      code_length b (length code) le,
      short_eighth (1 + length (written_code b)),
      short_five (1 + length (short t)) (omega arith),
    )

given_bytes : (entry : ℕ) (b : BodyOf) (fs : List Func) → length (flat_map written_code (bodies_of (funcs_given entry b fs)))
    ≤ length (flat_map written_code (bodies_of fs)) + length (written_code b)
given_bytes zero b [] = omega arith
given_bytes zero b (f ∷ fs) =
    let rest = flat_map written_code (bodies_of fs) in
    omega (arith, length-append (written_code b) rest, length-append (written_code f.body) rest)
given_bytes (suc entry) b [] = omega arith
given_bytes (suc entry) b (f ∷ fs) =
    omega (
      arith,
      given_bytes entry b fs,
      length-append (written_code f.body) (flat_map written_code (bodies_of (funcs_given entry b fs))),
      length-append (written_code f.body) (flat_map written_code (bodies_of fs)),
    )

abbrev by_body : BodyOf → ℕ
by_body b = length (written_code b) + length (short (length (written_code b)))

each_of_body : (entry : ℕ) (b : BodyOf) (d : Parts) (k : SectionId)
    → length (written_section k (contents (lists_of (with_body entry b d)) k))
    ≤ length (written_section k (contents (lists_of d) k)) + only CodeSection (by_body b) k
each_of_body entry b d FunctionSection = omega (arith, ap (λ (ts : List ℕ). length (list_section 3 short ts)) (types_given entry b d.funcs))
each_of_body entry b d CodeSection =
    let given = funcs_given entry b d.funcs in
    let many : length (bodies_of given) ≡ length (bodies_of d.funcs) = omega (
      arith,
      ap length (types_given entry b d.funcs),
      length-map given (λ (f : Func). f.ty),
      length-map given (λ (f : Func). f.body),
      length-map d.funcs (λ (f : Func). f.ty),
      length-map d.funcs (λ (f : Func). f.body),
    ) in
    omega (arith, changed_section 10 written_code (bodies_of given) (bodies_of d.funcs) (length (written_code b)) many (given_bytes entry b d.funcs))
each_of_body entry b d _ = omega arith

pub body_grown : (x entry : ℕ) (b : BodyOf) (code : List ℕ) (d : Parts) → length (written_body b) ≤ length code
    → length (encoded (with_body entry b d)) ≤ length (encoded d) + edit_room (edits.Body x code)
body_grown x entry b code d le =
    omega (
      arith,
      length-encoded_more (with_body entry b d) d (only CodeSection (by_body b)) refl (each_of_body entry b d),
      code_length b (length code) le,
      short_eighth (length (written_code b)),
    )

-- ---- globals

abbrev global_item : GlobalType → Instrs → GlobalDef
global_item t e = record { ty = t; init = e }

each_of_global : (t : GlobalType) (e : Instrs) (d : Parts) (k : SectionId)
    → length (written_section k (contents (lists_of (with_global t e d)) k))
    ≤ length (written_section k (contents (lists_of d) k)) + only GlobalSection (pushed_by (length (written_global (global_item t e)))) k
each_of_global t e d GlobalSection = omega (arith, pushed_section 6 written_global d.globals (global_item t e))
each_of_global t e d _ = omega arith

pub global_grown : (t : GlobalType) (e : Instrs) (init : List ℕ) (d : Parts) → length (written_expr e) ≤ length init
    → length (encoded (with_global t e d)) ≤ length (encoded d) + edit_room (edits.Global t init)
global_grown t e init d le =
    let n = length (written_global (global_item t e)) in
    omega (
      arith,
      length-encoded_more (with_global t e d) d (only GlobalSection (pushed_by n)) refl (each_of_global t e d),
      length-append (written_globaltype t) (written_expr e),
      short_eighth (1 + n),
    )

-- ---- exports

each_of_export : (e : Export) (d : Parts) (k : SectionId) → length (written_section k (contents (lists_of (with_export e d)) k))
    ≤ length (written_section k (contents (lists_of d) k)) + only ExportSection (pushed_by (length (written_export e))) k
each_of_export e d ExportSection = omega (arith, pushed_section 7 written_export d.exports e)
each_of_export e d _ = omega arith

export_length : (e : Export) → length (written_export e) ≡ length (short (length e.name)) + length e.name + 1 + length (short e.index)
export_length e =
    omega (arith, length-append (written_bytes e.name) (kind_byte e.kind ∷ short e.index), length-append (short (length e.name)) e.name)

pub export_grown : (e : Export) (d : Parts) → length (short e.index) ≤ limit
    → length (encoded (with_export e d)) ≤ length (encoded d) + edit_room (edits.Export e)
export_grown e d few =
    let name = length (short (length e.name)) + length e.name in
    let index = length (short e.index) in
    let long : 1 + length (written_export e) ≡ (name + 2) + index = omega (arith, export_length e) in
    omega (
      arith,
      length-encoded_more (with_export e d) d (only ExportSection (pushed_by (length (written_export e)))) refl (each_of_export e d),
      export_length e,
      ap (λ (n : ℕ). length (short n)) long,
      short_sum (name + 2) index,
      short_eighth (length e.name),
      short_eighth (name + 2),
      short_five index (omega arith),
    )
