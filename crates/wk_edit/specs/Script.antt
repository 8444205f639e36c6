-- What a script says: lines, each of which is empty or one edit.
use Rattle.std.specs.Prelude.{◌≡◌, ◌≢◌, ℕ, ◌+◌, nat_le, Bool, if◌then◌else◌, Option, Some, None, List, [], ◌∷◌, length, ◌==◌, Result, Ok, Err, codes}
use Rattle.std.specs.List.{list_any}
use Rattle.std.specs.Str.{bytes_eq}
use Rattle.wk_session.specs.declared.edit.Edit.{Edit}
use Rattle.wk_session.specs.declared.edit.Edit.TheVariants as edits
use Rattle.wk_edit.specs.declared.verb.Verb.{Verb}
use Rattle.wk_edit.specs.declared.verb.Verb.TheVariants as verbs
use Rattle.wk_edit.specs.declared.fault.ScriptFault.{ScriptFault}
use Rattle.wk_edit.specs.declared.fault.ScriptFault.TheVariants.{BadWord, NotAscii, Memory}
use Rattle.wk_edit.specs.Pieces.{pieces}
use Rattle.wk_edit.specs.Words.{◌>>=◌, types_of, number_of, kind_named, global_type_of, desc_of, name_of, data_of}

-- ---- edits, by the words behind the first one

-- `type PARAMS RESULTS`
abbrev pub type_edit : List (List ℕ) → Option Edit
type_edit (params ∷ results ∷ []) = do
  ps ← types_of params
  rs ← types_of results
  Some (edits.Ty (record { params = ps; results = rs }))
type_edit _ = None

-- `import KIND MODULE NAME ..`, where what stands behind the names depends on the kind
abbrev pub import_edit : List (List ℕ) → Option Edit
import_edit (kind ∷ «module» ∷ name ∷ more) = do
  k ← kind_named kind
  desc ← desc_of k more
  from ← name_of «module»
  n ← name_of name
  Some (edits.Import (record { from = from; name = n; desc = desc }))
import_edit _ = None

-- a number and bytes, and what is made of them
abbrev pub numbered_edit : (ℕ → List ℕ → Edit) → List (List ℕ) → Option Edit
numbered_edit make (number ∷ digits ∷ []) = do
  n ← number_of number
  code ← data_of digits
  Some (make n code)
numbered_edit make _ = None

-- `func TYPE CODE`
abbrev pub func_edit : List (List ℕ) → Option Edit
func_edit words = numbered_edit edits.Func words

-- `body FUNCTION CODE`
abbrev pub body_edit : List (List ℕ) → Option Edit
body_edit words = numbered_edit edits.Body words

-- `global VALTYPE MUT INIT`
abbrev pub global_edit : List (List ℕ) → Option Edit
global_edit (val ∷ set ∷ digits ∷ []) = do
  t ← global_type_of val set
  init ← data_of digits
  Some (edits.Global t init)
global_edit _ = None

-- `export KIND NAME INDEX`
abbrev pub export_edit : List (List ℕ) → Option Edit
export_edit (kind ∷ name ∷ index ∷ []) = do
  k ← kind_named kind
  x ← number_of index
  n ← name_of name
  Some (edits.Export (record { name = n; kind = k; index = x }))
export_edit _ = None

-- `unexport NAME`
abbrev pub unexport_edit : List (List ℕ) → Option Edit
unexport_edit (name ∷ []) = do
  n ← name_of name
  Some (edits.Unexport n)
unexport_edit _ = None

-- `custom set NAME BYTES` and `custom strip NAME`
abbrev pub custom_edit : List (List ℕ) → Option Edit
custom_edit (kind ∷ name ∷ []) = if bytes_eq kind (codes "strip") then (do
  n ← name_of name
  Some (edits.StripCustom n)) else None
custom_edit (kind ∷ name ∷ digits ∷ []) = if bytes_eq kind (codes "set") then (do
  n ← name_of name
  bytes ← data_of digits
  Some (edits.SetCustom n bytes)) else None
custom_edit _ = None

-- `strip`
abbrev pub strip_edit : List (List ℕ) → Option Edit
strip_edit [] = Some edits.StripAll
strip_edit _ = None

-- ---- lines

-- what the first word of a line asks for
abbrev pub verb_named : List ℕ → Option Verb
verb_named w =
    if bytes_eq w (codes "type") then Some verbs.TypeLine
    else if bytes_eq w (codes "import") then Some verbs.ImportLine
    else if bytes_eq w (codes "func") then Some verbs.FuncLine
    else if bytes_eq w (codes "body") then Some verbs.BodyLine
    else if bytes_eq w (codes "global") then Some verbs.GlobalLine
    else if bytes_eq w (codes "export") then Some verbs.ExportLine
    else if bytes_eq w (codes "unexport") then Some verbs.UnexportLine
    else if bytes_eq w (codes "custom") then Some verbs.CustomLine
    else if bytes_eq w (codes "strip") then Some verbs.StripLine
    else None

-- the edit that a line asks for by its other words
abbrev pub edit_by : Verb → List (List ℕ) → Option Edit
edit_by verbs.TypeLine words = type_edit words
edit_by verbs.ImportLine words = import_edit words
edit_by verbs.FuncLine words = func_edit words
edit_by verbs.BodyLine words = body_edit words
edit_by verbs.GlobalLine words = global_edit words
edit_by verbs.ExportLine words = export_edit words
edit_by verbs.UnexportLine words = unexport_edit words
edit_by verbs.CustomLine words = custom_edit words
edit_by verbs.StripLine words = strip_edit words

-- the edit that the words of a line name
abbrev pub edit_of : List (List ℕ) → Option Edit
edit_of [] = None
edit_of (first ∷ rest) = do
  verb ← verb_named first
  edit_by verb rest

-- the edit, or the fault of a line that names none
abbrev pub or_bad_word : ℕ → Option Edit → Result (Option Edit) ScriptFault
or_bad_word number (Some edit) = Ok (Some edit)
or_bad_word number None = Err (BadWord number)

abbrev pub is_high : ℕ → Bool
is_high x = nat_le 128 x

-- the edit of the line with that number; an empty one has none
abbrev pub line_edit : ℕ → List ℕ → Result (Option Edit) ScriptFault
line_edit number bytes =
    if length bytes == 0 then Ok None
    else if list_any is_high bytes then Err (NotAscii number)
    else or_bad_word number (edit_of (pieces 32 bytes))

-- ---- scripts

-- a line's edit in front of those of the later lines, or the first fault
abbrev pub then_more : Result (Option Edit) ScriptFault → Result (List Edit) ScriptFault → Result (List Edit) ScriptFault
then_more (Err e) more = Err e
then_more (Ok None) more = more
then_more (Ok (Some edit)) (Ok edits) = Ok (edit ∷ edits)
then_more (Ok (Some edit)) (Err e) = Err e

-- the edits of lines, the first of which has that number, or the fault of the first faulty one
unfoldable pub lines_from : ℕ → List (List ℕ) → Result (List Edit) ScriptFault
lines_from number [] = Ok []
lines_from number (l ∷ ls) = then_more (line_edit number l) (lines_from (number + 1) ls)

-- the edits of a script, whose lines count from 1
abbrev pub script_of : List ℕ → Result (List Edit) ScriptFault
script_of bytes = lines_from 1 (pieces 10 bytes)

-- What was read is this, seen by view; want of memory says nothing.
abbrev pub Reads : {X Y : Type 0} → (X → Y) → Result X ScriptFault → Result Y ScriptFault → Type 0
Reads view (Ok x) said = said ≡ Ok (view x)
Reads view (Err e) said = e ≢ Memory → said ≡ Err e
