-- Worked modules: what edits make of them and take, by computing.
use Rattle.std.proofs.Common.{◌≡◌, ℕ, false, Some, None, [], ◌∷◌, Ok, Err, refl}
use Rattle.wk_body.specs.declared.types.Profile.TheVariants.{Core}
use Rattle.wk_body.specs.declared.types.ValType.TheVariants.{I32}
use Rattle.wk_body.specs.Instructions.{Call, GlobalGet, I32Const}
use Rattle.wk_body.specs.Tree.{Instrs, Finish, One}
use Rattle.std.specs.Prelude.{pos}
use Rattle.wk_module.specs.declared.types.Parts.{Parts}
use Rattle.wk_module.specs.declared.types.Func.{Func}
use Rattle.wk_module.specs.declared.types.FuncType.{FuncType}
use Rattle.wk_module.specs.declared.types.Import.{Import}
use Rattle.wk_module.specs.declared.types.ImportDesc.TheVariants as desc
use Rattle.wk_module.specs.declared.types.Kind.TheVariants as kinds
use Rattle.wk_module.specs.Moving.{moved_parts}
use Rattle.wk_module.specs.Shape.{nothing, settle}
use Rattle.wk_typing.specs.declared.fault.FaultKind.TheVariants.{UnknownFunc}
use Rattle.wk_check.specs.Verdict.{module_verdict}
use Rattle.wk_typing.specs.declared.fault.Verdict.TheVariants.{Valid, Invalid}
use Rattle.wk_session.specs.declared.edit.Edit.TheVariants as edits
use Rattle.wk_session.specs.declared.edit.Work.{Work}
use Rattle.wk_session.specs.declared.edit.EditFault.TheVariants.{NoSuchExport}
use Rattle.wk_module.specs.Changes.{with_import, with_type, with_func, with_body, without_first}
use Rattle.wk_session.specs.Edits.{entry_of, export_removed}
use Rattle.wk_session.specs.Dependents.{work_of}

abbrev plain_type : FuncType
plain_type = record { params = []; results = [] }

abbrev func : ℕ → Instrs → Func
func t is = record { ty = t; body = record { groups = []; instrs = is } }

abbrev calling : ℕ → Parts
calling x = record (nothing Core) { types = plain_type ∷ []; funcs = func 0 (One (Call x) Finish) ∷ [] }

abbrev imported : Import
imported = record { from = 101 ∷ 110 ∷ 118 ∷ []; name = 102 ∷ []; desc = desc.Func 0 }

abbrev works : ℕ → ℕ → ℕ → Work
works typed encoded sections = record { typed = typed; encoded = encoded; sections = sections }

abbrev importing : Parts → Parts
importing m = with_import imported (moved_parts kinds.Func 0 m)

-- a call moves with the function that it finds, and is encoded again
pub call_moves : work_of (edits.Import imported) (calling 0) (importing (calling 0)) ≡ works 0 1 1
call_moves = refl

still_valid : module_verdict (settle (importing (calling 0))) ≡ Valid
still_valid = refl

-- one that finds none stays so, and moves too
dangling_moves : work_of (edits.Import imported) (calling 127) (importing (calling 127)) ≡ works 0 1 1
dangling_moves = refl

still_dangling : module_verdict (settle (importing (calling 127)))
    ≡ Invalid (record { kind = UnknownFunc; place = record { section = 10; item = 0; token = Some 0 } })
still_dangling = refl

-- a type comes for a function without one, and for its caller
abbrev untyped : Parts
untyped = record (nothing Core) { types = plain_type ∷ []; funcs = func 0 (One (Call 1) Finish) ∷ func 1 Finish ∷ [] }

type_comes : work_of (edits.Ty plain_type) untyped (with_type plain_type untyped) ≡ works 2 0 1
type_comes = refl

-- a function comes that a call was waiting for
func_comes : work_of (edits.Func 0 (0 ∷ 11 ∷ [])) (calling 1) (with_func 0 (record { groups = []; instrs = Finish }) (calling 1)) ≡ works 2 1 1
func_comes = refl

-- one that none was waiting for
another_comes : work_of (edits.Func 0 (0 ∷ 11 ∷ [])) (calling 0) (with_func 0 (record { groups = []; instrs = Finish }) (calling 0)) ≡ works 1 1 1
another_comes = refl

-- a body is replaced
body_comes : work_of (edits.Body 0 (0 ∷ 11 ∷ [])) (calling 0) (with_body 0 (record { groups = []; instrs = Finish }) (calling 0)) ≡ works 1 1 0
body_comes = refl

no_body : entry_of 1 (calling 0) ≡ None
no_body = refl

import_has_no_body : entry_of 0 (importing (calling 0)) ≡ None
import_has_no_body = refl

-- a start function and an element segment move with the function
abbrev started : Parts
started = record (calling 0) {
  funcs = func 0 Finish ∷ [];
  tables = record { min = 1; max = None } ∷ [];
  start = Some 0;
  elems = record { table = 0; offset = One (I32Const (pos 0)) Finish; funcs = 0 ∷ [] } ∷ [];
}

three_sections : work_of (edits.Import imported) started (importing started) ≡ works 0 0 3
three_sections = refl

-- an offset moves with the global that it reads
abbrev offset : Parts
offset = record (nothing Core) {
  memories = record { min = 1; max = None } ∷ [];
  globals = record { ty = record { val = I32; mutable = false }; init = One (I32Const (pos 0)) Finish } ∷ [];
  datas = record { memory = 0; offset = One (GlobalGet 0) Finish; bytes = [] } ∷ [];
}

abbrev global_imported : Import
global_imported = record { from = []; name = []; desc = desc.Global (record { val = I32; mutable = false }) }

two_sections : work_of (edits.Import global_imported) offset (with_import global_imported (moved_parts kinds.Global 0 offset)) ≡ works 0 0 2
two_sections = refl

offset_valid : module_verdict (settle (with_import global_imported (moved_parts kinds.Global 0 offset))) ≡ Valid
offset_valid = refl

-- the first export of a name goes, and a custom behind the exports with them
abbrev exporting : Parts
exporting = record (calling 0) {
  exports = record { name = 97 ∷ []; kind = kinds.Func; index = 0 } ∷ record { name = 97 ∷ []; kind = kinds.Memory; index = 7 } ∷ [];
}

first_goes : without_first (97 ∷ []) exporting.exports ≡ Some (record { name = 97 ∷ []; kind = kinds.Memory; index = 7 } ∷ [])
first_goes = refl

none_goes : export_removed (98 ∷ []) exporting ≡ Err NoSuchExport
none_goes = refl

abbrev with_custom_behind : Parts
with_custom_behind = record (calling 0) {
  exports = record { name = 102 ∷ []; kind = kinds.Func; index = 0 } ∷ [];
  customs = record { place = 7; name = 99 ∷ []; bytes = 170 ∷ [] } ∷ [];
}

custom_settles : export_removed (102 ∷ []) with_custom_behind
    ≡ Ok (record with_custom_behind { exports = []; customs = record { place = 3; name = 99 ∷ []; bytes = 170 ∷ [] } ∷ [] })
custom_settles = refl
