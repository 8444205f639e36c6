-- Which bytes are a script, and which edits they spell, in the words of its rules.
use Rattle.std.specs.Prelude.{◌≡◌, ◌≢◌, ◌⊎◌, ℕ, ◌+◌, ◌^◌, ◌<◌, Bool, true, false, Option, Some, None, IfSome, List, [], ◌∷◌, ◌++◌, length, take, map, All, Ok}
use Rattle.std.specs.Prelude.{codes, decimal}
use Rattle.std.specs.List.{AllPass, join_with_byte, list_any}
use Rattle.std.specs.Str.{IsUtf8}
use Rattle.hex.specs.Hex.{decode_of}
use Rattle.wk_body.specs.declared.types.ValType.{ValType}
use Rattle.wk_body.specs.declared.types.ValType.TheVariants.{I32, I64, F32, F64}
use Rattle.wk_module.specs.declared.types.ImportDesc.{ImportDesc}
use Rattle.wk_module.specs.declared.types.ImportDesc.TheVariants as descs
use Rattle.wk_module.specs.declared.types.Kind.{Kind}
use Rattle.wk_module.specs.declared.types.Kind.TheVariants as kinds
use Rattle.wk_module.specs.declared.types.Limits.{Limits}
use Rattle.wk_module.specs.Items.{desc_kind}
use Rattle.wk_session.specs.declared.edit.Edit.{Edit}
use Rattle.wk_session.specs.declared.edit.Edit.TheVariants as edits
use Rattle.wk_edit.specs.declared.fault.ScriptFault.{ScriptFault}
use Rattle.wk_edit.specs.declared.fault.ScriptFault.TheVariants.{BadWord, NotAscii, Memory}
use Rattle.wk_edit.specs.Pieces.{pieces}
use Rattle.wk_edit.specs.Words.{is_graphic}
use Rattle.wk_edit.specs.Script.{is_high}

-- ---- words

abbrev pub type_name : ValType → List ℕ
type_name I32 = codes "i32"
type_name I64 = codes "i64"
type_name F32 = codes "f32"
type_name F64 = codes "f64"

-- `-` for none, or the names joined by `,`
abbrev pub types_word : List ValType → List ℕ
types_word [] = codes "-"
types_word (t ∷ ts) = join_with_byte 44 (map type_name (t ∷ ts))

-- `const` or `var`, by whether a global may be set
abbrev pub mutable_word : Bool → List ℕ
mutable_word false = codes "const"
mutable_word true = codes "var"

abbrev pub kind_word : Kind → List ℕ
kind_word kinds.Func = codes "func"
kind_word kinds.Table = codes "table"
kind_word kinds.Memory = codes "memory"
kind_word kinds.Global = codes "global"

-- A number is written in decimal, with no zero in front, and is at most 4,294,967,295.
abbrev pub IsU32 : ℕ → Type 0
IsU32 n = n < 2 ^ 32

-- a greatest size, where there is one
abbrev pub most_words : Option ℕ → List (List ℕ)
most_words None = []
most_words (Some n) = decimal n ∷ []

-- the least size, and the greatest
abbrev pub limits_words : Limits → List (List ℕ)
limits_words l = decimal l.min ∷ most_words l.max

-- what stands behind the names of an import
abbrev pub desc_words : ImportDesc → List (List ℕ)
desc_words (descs.Func ty) = decimal ty ∷ []
desc_words (descs.Table l) = limits_words l
desc_words (descs.Memory l) = limits_words l
desc_words (descs.Global t) = type_name t.val ∷ mutable_word t.mutable ∷ []

abbrev pub AreU32Limits : Limits → Type 0
AreU32Limits l = IsU32 l.min × IfSome l.max IsU32

abbrev pub IsU32Desc : ImportDesc → Type 0
IsU32Desc (descs.Func ty) = IsU32 ty
IsU32Desc (descs.Table l) = AreU32Limits l
IsU32Desc (descs.Memory l) = AreU32Limits l
IsU32Desc (descs.Global t) = Unit {0}

-- the word is the name itself
pub record IsPlainName (word name : List ℕ) : Type 0 where
  pub same : word ≡ name
  pub some : name ≢ []
  pub graphic : AllPass is_graphic name
  pub bare : take 2 name ≢ codes "x:"

-- the word is `x:` and the name's bytes in hexadecimal, in digits of either case
pub record IsHexName (word name : List ℕ) : Type 0 where
  pub digits : List ℕ
  pub parts : word ≡ codes "x:" ++ digits
  pub spelled : decode_of digits ≡ Ok name
  pub utf8 : IsUtf8 name

abbrev pub SpellsName : List ℕ → List ℕ → Type 0
SpellsName word name = IsPlainName word name ⊎ IsHexName word name

-- `-` for no bytes, or two hexadecimal digits of either case for each
abbrev pub SpellsData : List ℕ → List ℕ → Type 0
SpellsData word bytes = ((word ≡ codes "-") × (bytes ≡ [])) ⊎ ((word ≢ []) × (decode_of word ≡ Ok bytes))

-- ---- lines

-- the words of a line spell the edit
abbrev pub SpellsEdit : List (List ℕ) → Edit → Type 0
SpellsEdit words (edits.Ty t) = words ≡ codes "type" ∷ types_word t.params ∷ types_word t.results ∷ []
SpellsEdit words (edits.Import i) =
    (from name : List ℕ) × (words ≡ codes "import" ∷ kind_word (desc_kind i.desc) ∷ from ∷ name ∷ desc_words i.desc)
    × SpellsName from i.from × SpellsName name i.name × IsU32Desc i.desc
SpellsEdit words (edits.Func ty code) = (digits : List ℕ) × (words ≡ codes "func" ∷ decimal ty ∷ digits ∷ []) × IsU32 ty × SpellsData digits code
SpellsEdit words (edits.Body func code) =
    (digits : List ℕ) × (words ≡ codes "body" ∷ decimal func ∷ digits ∷ []) × IsU32 func × SpellsData digits code
SpellsEdit words (edits.Global t init) =
    (digits : List ℕ) × (words ≡ codes "global" ∷ type_name t.val ∷ mutable_word t.mutable ∷ digits ∷ []) × SpellsData digits init
SpellsEdit words (edits.Export e) =
    (name : List ℕ) × (words ≡ codes "export" ∷ kind_word e.kind ∷ name ∷ decimal e.index ∷ []) × SpellsName name e.name × IsU32 e.index
SpellsEdit words (edits.Unexport name) = (word : List ℕ) × (words ≡ codes "unexport" ∷ word ∷ []) × SpellsName word name
SpellsEdit words (edits.SetCustom name bytes) =
    (word digits : List ℕ) × (words ≡ codes "custom" ∷ codes "set" ∷ word ∷ digits ∷ []) × SpellsName word name × SpellsData digits bytes
SpellsEdit words (edits.StripCustom name) = (word : List ℕ) × (words ≡ codes "custom" ∷ codes "strip" ∷ word ∷ []) × SpellsName word name
SpellsEdit words edits.StripAll = words ≡ codes "strip" ∷ []

-- the line is words parted by one space, and they spell the edit
abbrev pub SpellsLine : List ℕ → Edit → Type 0
SpellsLine line edit = (words : List (List ℕ)) × (line ≡ join_with_byte 32 words) × SpellsEdit words edit

-- the lines that are not empty spell the edits
abbrev pub SpellsLines : List (List ℕ) → List Edit → Type 0
SpellsLines [] edits = edits ≡ []
SpellsLines (line ∷ lines) edits = ((line ≡ []) × SpellsLines lines edits)
    ⊎ ((first : Edit) × (later : List Edit) × (edits ≡ first ∷ later) × SpellsLine line first × SpellsLines lines later)

-- ---- scripts

-- the bytes are lines parted by LF, and these spell the edits
abbrev pub IsScript : List ℕ → List Edit → Type 0
IsScript bytes edits = (lines : List (List ℕ)) × (bytes ≡ join_with_byte 10 lines) × SpellsLines lines edits

-- the bytes spell no other edits
abbrev pub IsOnlyScript : List ℕ → List Edit → Type 0
IsOnlyScript bytes edits = (others : List Edit) → IsScript bytes others → others ≡ edits

-- the bytes are no script
abbrev pub IsNoScript : List ℕ → Type 0
IsNoScript bytes = (edits : List Edit) → ¬ (IsScript bytes edits)

-- a line that is empty or an edit
abbrev pub IsFineLine : List ℕ → Type 0
IsFineLine line = (line ≡ []) ⊎ ((edit : Edit) × SpellsLine line edit)

-- the line with that number is the first that is not fine; it has a byte of `80` or above, or none
pub record IsFirstWrong (bytes : List ℕ) (number : ℕ) (high : Bool) : Type 0 where
  pub before : List (List ℕ)
  pub line : List ℕ
  pub after : List (List ℕ)
  pub cut : pieces 10 bytes ≡ before ++ line ∷ after
  pub count : number ≡ length before + 1
  pub fine : All IsFineLine before
  pub wrong : ¬ (IsFineLine line)
  pub told : list_any is_high line ≡ high

-- the fault is that of the first wrong line
abbrev pub IsFaultOf : List ℕ → ScriptFault → Type 0
IsFaultOf bytes (BadWord number) = IsFirstWrong bytes number false
IsFaultOf bytes (NotAscii number) = IsFirstWrong bytes number true
IsFaultOf bytes Memory = ⊥
