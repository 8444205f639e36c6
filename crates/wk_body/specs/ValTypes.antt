-- Value types (5.3.1).
use Rattle.std.specs.Prelude.{◌≡◌, ℕ, ◌==◌, if◌then◌else◌, Option, Some, None, List, [], ◌∷◌, Result, Ok}
use Rattle.wk_bytes.specs.declared.fault.ReadKind.TheVariants.{BadByte}
use Rattle.wk_bytes.specs.declared.fault.ReadFault.{ReadFault}
use Rattle.wk_bytes.specs.Leb.{◌>>=◌, or_fail}
use Rattle.wk_bytes.specs.Span.{fault, byte_at}
use Rattle.wk_body.specs.declared.types.ValType.{ValType}
use Rattle.wk_body.specs.declared.types.ValType.TheVariants.{I32, I64, F32, F64}

-- the byte of a value type
abbrev pub valtype_byte : ValType → ℕ
valtype_byte I32 = 0x7F
valtype_byte I64 = 0x7E
valtype_byte F32 = 0x7D
valtype_byte F64 = 0x7C

abbrev pub SpellsValType : List ℕ → ValType → Type 0
SpellsValType b t = b ≡ valtype_byte t ∷ []

-- the value type of a byte
abbrev pub valtype_of : ℕ → Option ValType
valtype_of x = if x == 0x7F then Some I32 else (if x == 0x7E then Some I64 else (if x == 0x7D then Some F32 else (if x == 0x7C then Some F64 else None)))

unfoldable pub valtype_at : ℕ → List ℕ → Result (ValType × List ℕ) ReadFault
valtype_at end bytes = do
  x ← byte_at end bytes
  t ← or_fail (valtype_of x.0) (fault BadByte end bytes)
  Ok (t, x.1)
