-- Pieces of text.
use Rattle.std.specs.Prelude.{◌≡◌, ℕ, ◌+◌, ◌/◌, ◌%◌, nat_le, ◌==◌, ◌&&◌, not, Bool, true, false, if◌then◌else◌, Option, Some, None, List, [], ◌∷◌, ◌++◌, codes}
use Rattle.std.specs.Prelude.{decimal}
use Rattle.std.specs.List.{flat_map}
use Rattle.hex.specs.Hex.{encode_lower}
use Rattle.wk_bytes.specs.HexDigits.{hex_digit}
use Rattle.wk_body.specs.declared.types.ValType.{ValType}
use Rattle.wk_body.specs.declared.types.ValType.TheVariants.{I32, I64, F32, F64}
use Rattle.wk_module.specs.declared.types.FuncType.{FuncType}
use Rattle.wk_module.specs.declared.types.Limits.{Limits}
use Rattle.wk_module.specs.declared.types.GlobalType.{GlobalType}
use Rattle.wk_module.specs.declared.types.Kind.{Kind}
use Rattle.wk_module.specs.declared.types.Kind.TheVariants.{Func, Table, Memory, Global}

-- what stood before stands at the front of what stands now
abbrev pub StandsInFront : List ℕ → List ℕ → Type 0
StandsInFront old new = (later : List ℕ) × (new ≡ old ++ later)

-- ---- names

-- bytes 21 to 7E alone
unfoldable pub all_visible : List ℕ → Bool
all_visible [] = true
all_visible (b ∷ rest) = (nat_le 0x21 b && nat_le b 0x7E) && all_visible rest

-- whether bytes begin with `x:`
abbrev pub begins_hex : List ℕ → Bool
begins_hex (a ∷ b ∷ rest) = (a == 120) && (b == 58)
begins_hex _ = false

-- whether a name is written as it is
unfoldable pub is_word : List ℕ → Bool
is_word [] = false
is_word (b ∷ rest) = all_visible (b ∷ rest) && not (begins_hex (b ∷ rest))

-- a name as it is, or else `x:` and its bytes in hexadecimal digits
unfoldable pub name_text : List ℕ → List ℕ
name_text name = if is_word name then name else codes "x:" ++ encode_lower name

-- both hexadecimal digits of a byte
abbrev pub both_digits : ℕ → List ℕ
both_digits b = hex_digit (b / 16) ∷ hex_digit (b % 16) ∷ []

-- ---- lists

-- a number after a space
abbrev pub spaced : ℕ → List ℕ
spaced n = codes " " ++ decimal n

-- items with commas between them: each but the first stands behind one
abbrev pub joined : {A : Type 0} → (A → List ℕ) → List A → List ℕ
joined text [] = []
joined text (x ∷ xs) = text x ++ flat_map (λ y. codes "," ++ text y) xs

-- the texts of items, each told its index, the first of which is `index`
abbrev pub numbered : {A : Type 0} → (ℕ → A → List ℕ) → ℕ → List A → List ℕ
numbered text index [] = []
numbered text index (x ∷ xs) = text index x ++ numbered text (index + 1) xs

-- ---- types

abbrev pub valtype_name : ValType → List ℕ
valtype_name I32 = codes "i32"
valtype_name I64 = codes "i64"
valtype_name F32 = codes "f32"
valtype_name F64 = codes "f64"

-- parameters and results, as `(i32,i64)->(i32)`
abbrev pub functype_text : FuncType → List ℕ
functype_text t = codes "(" ++ (joined valtype_name t.params ++ (codes ")->(" ++ (joined valtype_name t.results ++ codes ")")))

abbrev pub max_text : Option ℕ → List ℕ
max_text None = []
max_text (Some max) = codes " max=" ++ decimal max

abbrev pub limits_text : Limits → List ℕ
limits_text l = codes " min=" ++ (decimal l.min ++ max_text l.max)

abbrev pub mutability_text : Bool → List ℕ
mutability_text true = codes " var"
mutability_text false = codes " const"

abbrev pub globaltype_text : GlobalType → List ℕ
globaltype_text g = codes " " ++ (valtype_name g.val ++ mutability_text g.mutable)

-- ---- what has an index

abbrev pub kind_name : Kind → List ℕ
kind_name Func = codes "func"
kind_name Table = codes "table"
kind_name Memory = codes "memory"
kind_name Global = codes "global"

-- as `func[1]`
abbrev pub indexed : List ℕ → ℕ → List ℕ
indexed name index = name ++ (codes "[" ++ (decimal index ++ codes "]"))
