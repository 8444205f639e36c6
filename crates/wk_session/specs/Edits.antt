-- What each edit makes of a plain module, or why it is refused. The refusals come in the order of their numbers, but that bytes which spell
-- nothing (6) come before an index that can't move (4) and a module that is too large (5).
use Rattle.std.specs.Prelude.{ℕ, ◌-◌, nat_le, nat_lt, Bool, true, false, not, ◌&&◌, if◌then◌else◌, Option, Some, None, List, [], ◌∷◌, length, filter, Result}
use Rattle.std.specs.Prelude.{Ok, Err}
use Rattle.std.specs.List.{list_any}
use Rattle.std.specs.Str.{bytes_eq}
use Rattle.wk_bytes.specs.declared.fault.ReadFault.{ReadFault}
use Rattle.wk_bytes.specs.Frames.{limit}
use Rattle.wk_bytes.specs.Leb.{◌>>=◌}
use Rattle.wk_body.specs.Reading.{all_body_at, all_expr_at, whole_at}
use Rattle.wk_module.specs.declared.types.FuncType.{FuncType}
use Rattle.wk_module.specs.declared.types.GlobalType.{GlobalType}
use Rattle.wk_module.specs.declared.types.Import.{Import}
use Rattle.wk_module.specs.declared.types.Kind.TheVariants as kinds
use Rattle.wk_module.specs.declared.types.Export.{Export}
use Rattle.wk_module.specs.declared.types.Custom.{Custom}
use Rattle.wk_module.specs.declared.types.Parts.{Parts}
use Rattle.wk_module.specs.Changes.{with_type, with_import, with_func, with_body, with_global, with_export, without_first}
use Rattle.wk_module.specs.Imports.{import_count}
use Rattle.wk_module.specs.Items.{desc_kind}
use Rattle.wk_module.specs.Moving.{moved_parts, are_parts_stuck}
use Rattle.wk_module.specs.Shape.{settle}
use Rattle.wk_module.specs.Writing.{encoded}
use Rattle.wk_typing.specs.declared.fault.Verdict.{Verdict}
use Rattle.wk_typing.specs.declared.fault.Verdict.TheVariants.{Valid, Invalid}
use Rattle.wk_check.specs.Verdict.{module_verdict}
use Rattle.wk_session.specs.declared.edit.Edit.{Edit}
use Rattle.wk_session.specs.declared.edit.Edit.TheVariants as edits
use Rattle.wk_session.specs.declared.edit.EditFault.{EditFault}
use Rattle.wk_session.specs.declared.edit.EditFault.TheVariants.{NoSuchFunction, NoSuchExport, NoSuchCustom, IndexOverflow, TooLarge, BadBytes, WouldBreak}

-- ---- refusals that several edits share

-- a module that is not too large
abbrev pub fitting : Parts → Result Parts EditFault
fitting m = if nat_le (length (encoded m)) limit then Ok m else Err TooLarge

-- what the bytes of an edit spell, or the first fault in them
abbrev pub from_bytes : {A : Type 0} → Result A ReadFault → Result A EditFault
from_bytes (Ok x) = Ok x
from_bytes (Err e) = Err (BadBytes e)

-- ---- types

abbrev pub type_added : FuncType → Parts → Result Parts EditFault
type_added t m = fitting (settle (with_type t m))

-- ---- imports: they come first in the index space of their kind, so what the module defines of that kind moves behind the new one

-- the index of the new import in that space
abbrev pub import_place : Import → Parts → ℕ
import_place i m = import_count (desc_kind i.desc) m.imports

abbrev pub import_added : Import → Parts → Result Parts EditFault
import_added i m =
    if are_parts_stuck (desc_kind i.desc) (import_place i m) m then Err IndexOverflow
    else fitting (settle (with_import i (moved_parts (desc_kind i.desc) (import_place i m) m)))

-- ---- functions

abbrev pub func_added : ℕ → List ℕ → Parts → Result Parts EditFault
func_added t code m = from_bytes (whole_at (all_body_at m.profile) code) >>= λ b. fitting (settle (with_func t b m))

-- which of the functions that the module defines has this index
abbrev pub entry_of : ℕ → Parts → Option ℕ
entry_of x m =
    let k = import_count kinds.Func m.imports in
    if nat_le k x && nat_lt (x - k) (length m.funcs) then Some (x - k) else None

abbrev pub body_put : Option ℕ → List ℕ → Parts → Result Parts EditFault
body_put None code m = Err NoSuchFunction
body_put (Some entry) code m = from_bytes (whole_at (all_body_at m.profile) code) >>= λ b. fitting (settle (with_body entry b m))

-- ---- globals

abbrev pub global_added : GlobalType → List ℕ → Parts → Result Parts EditFault
global_added t init m = from_bytes (whole_at (all_expr_at m.profile) init) >>= λ e. fitting (settle (with_global t e m))

-- ---- exports

abbrev pub export_added : Export → Parts → Result Parts EditFault
export_added e m = fitting (settle (with_export e m))

-- the module with these exports, if there are any to give it
abbrev pub with_exports : Option (List Export) → Parts → Result Parts EditFault
with_exports None m = Err NoSuchExport
with_exports (Some es) m = Ok (settle (record m { exports = es }))

abbrev pub export_removed : List ℕ → Parts → Result Parts EditFault
export_removed name m = with_exports (without_first name m.exports) m

-- ---- customs

abbrev pub is_named : List ℕ → Custom → Bool
is_named name c = bytes_eq c.name name

-- the module without the customs of a name
abbrev pub without_customs : List ℕ → Parts → Parts
without_customs name m = record m { customs = filter (λ c. not (is_named name c)) m.customs }

abbrev pub custom_stripped : List ℕ → Parts → Result Parts EditFault
custom_stripped name m = if list_any (is_named name) m.customs then Ok (settle (without_customs name m)) else Err NoSuchCustom

-- a custom with other bytes
abbrev pub with_bytes : List ℕ → Custom → Custom
with_bytes bytes c = record c { bytes = bytes }

-- The first custom of that name has these bytes, in its place; where there is none, a new one is the last.
abbrev pub custom_put : List ℕ → List ℕ → List Custom → List Custom
custom_put name bytes [] = record { place = 11; name = name; bytes = bytes } ∷ []
custom_put name bytes (c ∷ cs) = if is_named name c then with_bytes bytes c ∷ cs else c ∷ custom_put name bytes cs

abbrev pub with_custom : List ℕ → List ℕ → Parts → Parts
with_custom name bytes m = record m { customs = custom_put name bytes m.customs }

abbrev pub custom_set : List ℕ → List ℕ → Parts → Result Parts EditFault
custom_set name bytes m = fitting (settle (with_custom name bytes m))

-- the module without any customs
abbrev pub without_all_customs : Parts → Parts
without_all_customs m = record m { customs = [] }

-- ---- all edits

-- the module that the edit makes, or why it is refused
abbrev pub edited : Edit → Parts → Result Parts EditFault
edited (edits.Ty t) m = type_added t m
edited (edits.Import i) m = import_added i m
edited (edits.Func t code) m = func_added t code m
edited (edits.Body x code) m = body_put (entry_of x m) code m
edited (edits.Global t init) m = global_added t init m
edited (edits.Export e) m = export_added e m
edited (edits.Unexport name) m = export_removed name m
edited (edits.SetCustom name bytes) m = custom_set name bytes m
edited (edits.StripCustom name) m = custom_stripped name m
edited edits.StripAll m = Ok (settle (without_all_customs m))

-- ---- edits that have to leave a valid module

-- a module, if this verdict on it is no fault
abbrev pub unbroken : Parts → Verdict → Result Parts EditFault
unbroken n Valid = Ok n
unbroken n (Invalid fault) = Err (WouldBreak fault)

-- a module that may stay: any, or where `keep` says so, a valid one
abbrev pub lasting : Bool → Parts → Result Parts EditFault
lasting false n = Ok n
lasting true n = unbroken n (module_verdict n)

-- the module that the edit makes, or why it is refused, where `keep` says whether it has to leave a valid one
abbrev pub made : Bool → Edit → Parts → Result Parts EditFault
made keep e m = edited e m >>= lasting keep

-- ---- outcomes that are decided without any memory: look-ups, a written form that gets too long by a type, an export or a custom, and
-- customs that are removed

abbrev pub is_large : Result Parts EditFault → Bool
is_large (Err TooLarge) = true
is_large r = false

abbrev pub is_none : {A : Type 0} → Option A → Bool
is_none None = true
is_none (Some x) = false

abbrev pub is_decided : Edit → Parts → Bool
is_decided (edits.Ty t) m = is_large (type_added t m)
is_decided (edits.Body x code) m = is_none (entry_of x m)
is_decided (edits.Export e) m = is_large (export_added e m)
is_decided (edits.Unexport name) m = is_none (without_first name m.exports)
is_decided (edits.SetCustom name bytes) m = is_large (custom_set name bytes m)
is_decided (edits.StripCustom name) m = true
is_decided edits.StripAll m = true
is_decided e m = false
