-- What the lists of a module hold (5.5): imports, globals, exports, element segments, codes and data segments.
use Rattle.std.specs.Prelude.{◌≡◌, ℕ, ◌-◌, List, ◌∷◌, ◌++◌, length, Ok}
use Rattle.std.specs.Str.{IsUtf8}
use Rattle.std.specs.List.{AllByRecursion}
use Rattle.wk_bytes.specs.Leb.{◌>>=◌, SpellsU}
use Rattle.wk_bytes.specs.Short.{short}
use Rattle.wk_bytes.specs.Pieces.{SpellsName}
use Rattle.wk_bytes.specs.Span.{u32_at, name_at}
use Rattle.wk_body.specs.declared.types.Profile.{Profile}
use Rattle.wk_body.specs.Bodies.{BodyOf, AreGroups}
use Rattle.wk_body.specs.Reading.{expr_at, all_body_at}
use Rattle.wk_body.specs.Shape.{IsU32, IsShaped, IsOf}
use Rattle.wk_body.specs.Spelling.{SpellsExpr, SpellsBody}
use Rattle.wk_body.specs.Tree.{Instrs}
use Rattle.wk_body.specs.Vectors.{SpellsVector, vector_at, written_vector}
use Rattle.wk_body.specs.Written.{written_expr, written_body}
use Rattle.wk_module.specs.declared.types.GlobalType.{GlobalType}
use Rattle.wk_module.specs.declared.types.Kind.{Kind}
use Rattle.wk_module.specs.declared.types.Kind.TheVariants as kinds
use Rattle.wk_module.specs.declared.types.ImportDesc.{ImportDesc}
use Rattle.wk_module.specs.declared.types.ImportDesc.TheVariants.{Func, Table, Memory, Global}
use Rattle.wk_module.specs.declared.types.Import.{Import}
use Rattle.wk_module.specs.declared.types.GlobalDef.{GlobalDef}
use Rattle.wk_module.specs.declared.types.Export.{Export}
use Rattle.wk_module.specs.declared.types.Elem.{Elem}
use Rattle.wk_module.specs.declared.types.DataSeg.{DataSeg}
use Rattle.wk_module.specs.Formats.{Reader, SpellsBoth, both_at, SpellsKeyed, keyed_at, made_at, SpellsCoded, coded_at, SpellsBytes, bytes_at, written_bytes}
use Rattle.wk_module.specs.Types.{SpellsLimits, limits_at, written_limits, AreLimits, SpellsTableType, tabletype_at, written_tabletype, SpellsGlobalType}
use Rattle.wk_module.specs.Types.{globaltype_at, written_globaltype, kind_byte, kind_of}

-- ---- imports (5.5.5): the module's name, the name in it, and what is imported

abbrev pub desc_kind : ImportDesc → Kind
desc_kind (Func x) = kinds.Func
desc_kind (Table l) = kinds.Table
desc_kind (Memory l) = kinds.Memory
desc_kind (Global t) = kinds.Global

-- what stands behind the kind
abbrev pub SpellsDescRest : List ℕ → ImportDesc → Type 0
SpellsDescRest b (Func x) = SpellsU 32 b x
SpellsDescRest b (Table l) = SpellsTableType b l
SpellsDescRest b (Memory l) = SpellsLimits b l
SpellsDescRest b (Global t) = SpellsGlobalType b t

abbrev pub SpellsDesc : List ℕ → ImportDesc → Type 0
SpellsDesc = SpellsKeyed desc_kind (SpellsCoded kind_byte) SpellsDescRest

unfoldable pub desc_rest_at : Kind → Reader ImportDesc
desc_rest_at kinds.Func end bytes = made_at Func u32_at end bytes
desc_rest_at kinds.Table end bytes = made_at Table tabletype_at end bytes
desc_rest_at kinds.Memory end bytes = made_at Memory limits_at end bytes
desc_rest_at kinds.Global end bytes = made_at Global globaltype_at end bytes

abbrev pub desc_at : Reader ImportDesc
desc_at = keyed_at (coded_at kind_of) desc_rest_at

abbrev pub written_desc_rest : ImportDesc → List ℕ
written_desc_rest (Func x) = short x
written_desc_rest (Table l) = written_tabletype l
written_desc_rest (Memory l) = written_limits l
written_desc_rest (Global t) = written_globaltype t

abbrev pub written_desc : ImportDesc → List ℕ
written_desc d = kind_byte (desc_kind d) ∷ written_desc_rest d

abbrev pub IsDesc : ImportDesc → Type 0
IsDesc (Func x) = IsU32 x
IsDesc (Table l) = AreLimits l
IsDesc (Memory l) = AreLimits l
IsDesc (Global t) = Unit {0}

abbrev pub SpellsImport : List ℕ → Import → Type 0
SpellsImport b i = SpellsBoth SpellsName (SpellsBoth SpellsName SpellsDesc) b (i.from, (i.name, i.desc))

abbrev pub import_of : List ℕ × (List ℕ × ImportDesc) → Import
import_of x = record { from = x.0; name = x.1.0; desc = x.1.1 }

abbrev pub import_at : Reader Import
import_at = made_at import_of (both_at name_at (both_at name_at desc_at))

abbrev pub written_import : Import → List ℕ
written_import i = written_bytes i.from ++ (written_bytes i.name ++ written_desc i.desc)

abbrev pub IsImport : Import → Type 0
IsImport i = IsUtf8 i.from × IsUtf8 i.name × IsDesc i.desc

-- ---- expressions that stand in items

abbrev pub SpellsInit : Profile → List ℕ → Instrs → Type 0
SpellsInit profile b e = SpellsExpr profile e b

abbrev pub IsInit : Profile → Instrs → Type 0
IsInit profile e = IsShaped e × IsOf profile e

-- ---- globals (5.5.9): a type, and the expression of the first value

abbrev pub SpellsGlobal : Profile → List ℕ → GlobalDef → Type 0
SpellsGlobal profile b g = SpellsBoth SpellsGlobalType (SpellsInit profile) b (g.ty, g.init)

abbrev pub global_of : GlobalType × Instrs → GlobalDef
global_of x = record { ty = x.0; init = x.1 }

abbrev pub global_at : Profile → Reader GlobalDef
global_at profile = made_at global_of (both_at globaltype_at (expr_at profile))

abbrev pub written_global : GlobalDef → List ℕ
written_global g = written_globaltype g.ty ++ written_expr g.init

abbrev pub IsGlobal : Profile → GlobalDef → Type 0
IsGlobal profile g = IsInit profile g.init

-- ---- exports (5.5.10): a name, a kind, and an index

abbrev pub SpellsExport : List ℕ → Export → Type 0
SpellsExport b e = SpellsBoth SpellsName (SpellsBoth (SpellsCoded kind_byte) (SpellsU 32)) b (e.name, (e.kind, e.index))

abbrev pub export_of : List ℕ × (Kind × ℕ) → Export
export_of x = record { name = x.0; kind = x.1.0; index = x.1.1 }

abbrev pub export_at : Reader Export
export_at = made_at export_of (both_at name_at (both_at (coded_at kind_of) u32_at))

abbrev pub written_export : Export → List ℕ
written_export e = written_bytes e.name ++ (kind_byte e.kind ∷ short e.index)

abbrev pub IsExport : Export → Type 0
IsExport e = IsUtf8 e.name × IsU32 e.index

-- ---- element segments (5.5.12): a table, an offset, and functions

abbrev pub SpellsElem : Profile → List ℕ → Elem → Type 0
SpellsElem profile b e = SpellsBoth (SpellsU 32) (SpellsBoth (SpellsInit profile) (SpellsVector (SpellsU 32))) b (e.table, (e.offset, e.funcs))

abbrev pub elem_of : ℕ × (Instrs × List ℕ) → Elem
elem_of x = record { table = x.0; offset = x.1.0; funcs = x.1.1 }

abbrev pub elem_at : Profile → Reader Elem
elem_at profile = made_at elem_of (both_at u32_at (both_at (expr_at profile) (vector_at u32_at)))

abbrev pub written_elem : Elem → List ℕ
written_elem e = short e.table ++ (written_expr e.offset ++ written_vector short e.funcs)

abbrev pub IsElem : Profile → Elem → Type 0
IsElem profile e = IsU32 e.table × IsInit profile e.offset × AllByRecursion IsU32 e.funcs

-- ---- codes (5.5.13): a size, and a body that has it

pub record SpellsCode (profile : Profile) (b : List ℕ) (body : BodyOf) : Type 0 where
  pub size : List ℕ
  pub code : List ℕ
  pub parts : b ≡ size ++ code
  pub counts : SpellsU 32 size (length code)
  pub spelled : SpellsBody profile body code

unfoldable pub code_at : Profile → Reader BodyOf
code_at profile end bytes = do
  code ← bytes_at end bytes
  body ← all_body_at profile (end - length code.1) code.0
  Ok (body, code.1)

abbrev pub written_code : BodyOf → List ℕ
written_code body = written_bytes (written_body body)

abbrev pub IsCode : Profile → BodyOf → Type 0
IsCode profile body = AreGroups body.groups × IsInit profile body.instrs

-- ---- data segments (5.5.14): a memory, an offset, and bytes

abbrev pub SpellsData : Profile → List ℕ → DataSeg → Type 0
SpellsData profile b d = SpellsBoth (SpellsU 32) (SpellsBoth (SpellsInit profile) SpellsBytes) b (d.memory, (d.offset, d.bytes))

abbrev pub data_of : ℕ × (Instrs × List ℕ) → DataSeg
data_of x = record { memory = x.0; offset = x.1.0; bytes = x.1.1 }

abbrev pub data_at : Profile → Reader DataSeg
data_at profile = made_at data_of (both_at u32_at (both_at (expr_at profile) bytes_at))

abbrev pub written_data : DataSeg → List ℕ
written_data d = short d.memory ++ (written_expr d.offset ++ written_bytes d.bytes)

abbrev pub IsData : Profile → DataSeg → Type 0
IsData profile d = IsU32 d.memory × IsInit profile d.offset
