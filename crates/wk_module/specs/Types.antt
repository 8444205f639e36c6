-- Types (5.3) and import and export kinds (5.5.5, 5.5.10).
use Rattle.std.specs.Prelude.{ℕ, ◌==◌, if◌then◌else◌, Bool, true, false, Option, Some, None, List, [], ◌∷◌, ◌++◌}
use Rattle.wk_bytes.specs.Leb.{SpellsU}
use Rattle.wk_bytes.specs.Short.{short}
use Rattle.wk_bytes.specs.Span.{u32_at}
use Rattle.wk_body.specs.ValTypes.{valtype_byte, SpellsValType, valtype_at}
use Rattle.wk_body.specs.Vectors.{SpellsVector, vector_at, written_vector}
use Rattle.wk_body.specs.Shape.{IsU32}
use Rattle.wk_body.specs.declared.types.ValType.{ValType}
use Rattle.wk_module.specs.declared.types.FuncType.{FuncType}
use Rattle.wk_module.specs.declared.types.Limits.{Limits}
use Rattle.wk_module.specs.declared.types.GlobalType.{GlobalType}
use Rattle.wk_module.specs.declared.types.Kind.{Kind}
use Rattle.wk_module.specs.declared.types.Kind.TheVariants.{Func, Table, Memory, Global}
use Rattle.wk_module.specs.Formats.{Reader, SpellsBoth, both_at, SpellsKeyed, keyed_at, made_at, SpellsCoded, coded_at, SpellsBehind, behind_at}

abbrev pub written_valtype : ValType → List ℕ
written_valtype t = valtype_byte t ∷ []

-- ---- function types (5.3.3): the form `60`, the parameters, the results

abbrev pub SpellsFuncType : List ℕ → FuncType → Type 0
SpellsFuncType b t = SpellsBehind 0x60 (SpellsBoth (SpellsVector SpellsValType) (SpellsVector SpellsValType)) b (t.params, t.results)

abbrev pub func_type : List ValType × List ValType → FuncType
func_type x = record { params = x.0; results = x.1 }

abbrev pub functype_at : Reader FuncType
functype_at = made_at func_type (behind_at 0x60 (both_at (vector_at valtype_at) (vector_at valtype_at)))

abbrev pub written_functype : FuncType → List ℕ
written_functype t = 0x60 ∷ (written_vector written_valtype t.params ++ written_vector written_valtype t.results)

-- ---- limits (5.3.4): whether there is a greatest size, the least one, and the greatest one where there is

abbrev pub flag_byte : Bool → ℕ
flag_byte false = 0x00
flag_byte true = 0x01

-- the flag of a byte
abbrev pub flag_of : ℕ → Option Bool
flag_of x = if x == 0x00 then Some false else (if x == 0x01 then Some true else None)

abbrev pub has_max : Option ℕ → Bool
has_max None = false
has_max (Some max) = true

abbrev pub SpellsBounds : List ℕ → ℕ → Option ℕ → Type 0
SpellsBounds b min None = SpellsU 32 b min
SpellsBounds b min (Some max) = SpellsBoth (SpellsU 32) (SpellsU 32) b (min, max)

abbrev pub SpellsLimits : List ℕ → Limits → Type 0
SpellsLimits = SpellsKeyed (λ l. has_max l.max) (SpellsCoded flag_byte) (λ b l. SpellsBounds b l.min l.max)

abbrev pub without_max : ℕ → Limits
without_max min = record { min = min; max = None }

abbrev pub with_max : ℕ × ℕ → Limits
with_max x = record { min = x.0; max = Some x.1 }

unfoldable pub bounds_at : Bool → Reader Limits
bounds_at false end bytes = made_at without_max u32_at end bytes
bounds_at true end bytes = made_at with_max (both_at u32_at u32_at) end bytes

abbrev pub limits_at : Reader Limits
limits_at = keyed_at (coded_at flag_of) bounds_at

abbrev pub written_bounds : ℕ → Option ℕ → List ℕ
written_bounds min None = short min
written_bounds min (Some max) = short min ++ short max

abbrev pub written_limits : Limits → List ℕ
written_limits l = flag_byte (has_max l.max) ∷ written_bounds l.min l.max

abbrev pub IsBound : Option ℕ → Type 0
IsBound None = Unit {0}
IsBound (Some max) = IsU32 max

abbrev pub AreLimits : Limits → Type 0
AreLimits l = IsU32 l.min × IsBound l.max

-- ---- table types (5.3.6): the element type `70`, which is the only one, and limits

abbrev pub SpellsTableType : List ℕ → Limits → Type 0
SpellsTableType = SpellsBehind 0x70 SpellsLimits

abbrev pub tabletype_at : Reader Limits
tabletype_at = behind_at 0x70 limits_at

abbrev pub written_tabletype : Limits → List ℕ
written_tabletype l = 0x70 ∷ written_limits l

-- ---- global types (5.3.7): a value type, and whether the global may be set

abbrev pub SpellsGlobalType : List ℕ → GlobalType → Type 0
SpellsGlobalType b t = SpellsBoth SpellsValType (SpellsCoded flag_byte) b (t.val, t.mutable)

abbrev pub global_type : ValType × Bool → GlobalType
global_type x = record { val = x.0; mutable = x.1 }

abbrev pub globaltype_at : Reader GlobalType
globaltype_at = made_at global_type (both_at valtype_at (coded_at flag_of))

abbrev pub written_globaltype : GlobalType → List ℕ
written_globaltype t = valtype_byte t.val ∷ (flag_byte t.mutable ∷ [])

-- ---- kinds of what is imported and exported

abbrev pub kind_byte : Kind → ℕ
kind_byte Func = 0x00
kind_byte Table = 0x01
kind_byte Memory = 0x02
kind_byte Global = 0x03

-- the kind of a byte
abbrev pub kind_of : ℕ → Option Kind
kind_of x = if x == 0x00 then Some Func else (if x == 0x01 then Some Table else (if x == 0x02 then Some Memory else (if x == 0x03 then Some Global else None)))
