-- What the words of a script's line say.
use Rattle.std.specs.Prelude.{ℕ, ◌^◌, nat_le, nat_lt, ◌&&◌, not, ◌==◌, Bool, true, false, if◌then◌else◌, Option, Some, None, List, [], ◌∷◌, take, drop, length}
use Rattle.std.specs.Prelude.{Result, Ok, Err, codes, decimal}
use Rattle.std.specs.List.{list_all}
use Rattle.std.specs.Str.{bytes_eq, is_utf8}
use Rattle.std.specs.Str.Parse.{digits_value}
use Rattle.hex.specs.Hex.{decode_of}
use Rattle.hex.specs.declared.error.FromHexError.{FromHexError}
use Rattle.wk_body.specs.declared.types.ValType.{ValType}
use Rattle.wk_body.specs.declared.types.ValType.TheVariants.{I32, I64, F32, F64}
use Rattle.wk_module.specs.declared.types.GlobalType.{GlobalType}
use Rattle.wk_module.specs.declared.types.ImportDesc.{ImportDesc}
use Rattle.wk_module.specs.declared.types.ImportDesc.TheVariants as descs
use Rattle.wk_module.specs.declared.types.Kind.{Kind}
use Rattle.wk_module.specs.declared.types.Kind.TheVariants as kinds
use Rattle.wk_module.specs.declared.types.Limits.{Limits}
use Rattle.wk_edit.specs.Pieces.{pieces}

-- the `?` of options
infixl 10 ◌>>=◌
abbrev pub ◌>>=◌ : {A B : Type 0} → Option A → (A → Option B) → Option B
None >>= f = None
Some x >>= f = f x

-- ---- types

-- the value type of a name
abbrev pub type_named : List ℕ → Option ValType
type_named w =
    if bytes_eq w (codes "i32") then Some I32
    else if bytes_eq w (codes "i64") then Some I64
    else if bytes_eq w (codes "f32") then Some F32
    else if bytes_eq w (codes "f64") then Some F64
    else None

-- the value types of names, if each is the name of one
unfoldable pub all_named : List (List ℕ) → Option (List ValType)
all_named [] = Some []
all_named (w ∷ ws) = do
  t ← type_named w
  ts ← all_named ws
  Some (t ∷ ts)

-- `-` is no types; else names joined by `,`
abbrev pub types_of : List ℕ → Option (List ValType)
types_of w = if bytes_eq w (codes "-") then Some [] else all_named (pieces 44 w)

-- ---- numbers

-- the number that the digits write, where it is below 2 ^ 32 and the word is its text in decimal
unfoldable pub number_of : List ℕ → Option ℕ
number_of w =
    let n = digits_value 10 w in
    if nat_lt n (2 ^ 32) && bytes_eq w (decimal n) then Some n else None

-- a number, and another or none
abbrev pub limits_of : List (List ℕ) → Option Limits
limits_of (min ∷ []) = do
  n ← number_of min
  Some (record { min = n; max = None })
limits_of (min ∷ max ∷ []) = do
  n ← number_of min
  x ← number_of max
  Some (record { min = n; max = Some x })
limits_of _ = None

-- ---- kinds, globals and imports

-- the kind of a name
abbrev pub kind_named : List ℕ → Option Kind
kind_named w =
    if bytes_eq w (codes "func") then Some kinds.Func
    else if bytes_eq w (codes "table") then Some kinds.Table
    else if bytes_eq w (codes "memory") then Some kinds.Memory
    else if bytes_eq w (codes "global") then Some kinds.Global
    else None

-- whether a global may be set
abbrev pub mutable_named : List ℕ → Option Bool
mutable_named w =
    if bytes_eq w (codes "const") then Some false
    else if bytes_eq w (codes "var") then Some true
    else None

-- the type of a global, by the names of its value's type and of whether it may be set
abbrev pub global_type_of : List ℕ → List ℕ → Option GlobalType
global_type_of val set = do
  t ← type_named val
  mutable ← mutable_named set
  Some (record { val = t; mutable = mutable })

-- what is imported, by its kind and the words behind its names
abbrev pub desc_of : Kind → List (List ℕ) → Option ImportDesc
desc_of kinds.Func (ty ∷ []) = do
  t ← number_of ty
  Some (descs.Func t)
desc_of kinds.Table words = do
  l ← limits_of words
  Some (descs.Table l)
desc_of kinds.Memory words = do
  l ← limits_of words
  Some (descs.Memory l)
desc_of kinds.Global (val ∷ set ∷ []) = do
  g ← global_type_of val set
  Some (descs.Global g)
desc_of _ _ = None

-- ---- names

-- a byte that is seen in print and is no space
abbrev pub is_graphic : ℕ → Bool
is_graphic x = nat_le 33 x && nat_le x 126

-- bytes that are their own name
abbrev pub is_plain : List ℕ → Bool
is_plain w = not (length w == 0) && list_all is_graphic w

-- the bytes that were spelled in hexadecimal, if they are UTF-8
abbrev pub utf8_of : Result (List ℕ) FromHexError → Option (List ℕ)
utf8_of (Ok bytes) = if is_utf8 bytes then Some bytes else None
utf8_of (Err e) = None

-- `x:` and the bytes in hexadecimal; else the word itself
abbrev pub name_of : List ℕ → Option (List ℕ)
name_of w = if bytes_eq (take 2 w) (codes "x:") then utf8_of (decode_of (drop 2 w)) else if is_plain w then Some w else None

-- ---- bytes

-- the bytes that were spelled in hexadecimal, if they were
abbrev pub spelled_of : Result (List ℕ) FromHexError → Option (List ℕ)
spelled_of (Ok bytes) = Some bytes
spelled_of (Err e) = None

-- `-` is no bytes; else there is one at least, and each is two hexadecimal digits
abbrev pub data_of : List ℕ → Option (List ℕ)
data_of w = if bytes_eq w (codes "-") then Some [] else if length w == 0 then None else spelled_of (decode_of w)
