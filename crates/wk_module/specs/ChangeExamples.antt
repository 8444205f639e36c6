-- Changes of a small module, all but those by a type or a global: what is added comes last, and of what is named the first is meant.
use Rattle.std.proofs.Common.{◌≡◌, ℕ, [], ◌∷◌, Some, None, refl}
use Rattle.wk_body.specs.declared.types.Profile.TheVariants.{Core}
use Rattle.wk_body.specs.declared.types.ValType.TheVariants.{I32}
use Rattle.wk_body.specs.Bodies.{BodyOf}
use Rattle.wk_body.specs.Tree.{Finish}
use Rattle.wk_module.specs.declared.types.Import.{Import}
use Rattle.wk_module.specs.declared.types.ImportDesc.TheVariants as desc
use Rattle.wk_module.specs.declared.types.Kind.TheVariants as kinds
use Rattle.wk_module.specs.declared.types.Func.{Func}
use Rattle.wk_module.specs.declared.types.Export.{Export}
use Rattle.wk_module.specs.declared.types.Parts.{Parts}
use Rattle.wk_module.specs.Shape.{nothing}
use Rattle.wk_module.specs.Changes.{with_import, with_func, with_body, with_export, without_first}

abbrev none : Parts
none = nothing Core

abbrev body : BodyOf
body = record { groups = []; instrs = Finish }

abbrev other : BodyOf
other = record { groups = record { count = 1; ty = I32 } ∷ []; instrs = Finish }

abbrev func : ℕ → Func
func t = record { ty = t; body = body }

abbrev import_of : ℕ → Import
import_of t = record { from = []; name = []; desc = desc.Func t }

-- an export named by one byte
abbrev export_of : ℕ → ℕ → Export
export_of byte index = record { name = byte ∷ []; kind = kinds.Func; index = index }

-- ---- what is added comes last

import_last : (with_import (import_of 1) (record none { imports = import_of 0 ∷ [] })).imports ≡ import_of 0 ∷ import_of 1 ∷ []
import_last = refl

func_last : (with_func 1 other (record none { funcs = func 0 ∷ [] })).funcs ≡ func 0 ∷ record { ty = 1; body = other } ∷ []
func_last = refl

export_last : (with_export (export_of 97 1) (record none { exports = export_of 97 0 ∷ [] })).exports ≡ export_of 97 0 ∷ export_of 97 1 ∷ []
export_last = refl

-- ---- one of two bodies is another, and each function keeps its type

first_given : (with_body 0 other (record none { funcs = func 0 ∷ func 1 ∷ [] })).funcs ≡ record { ty = 0; body = other } ∷ func 1 ∷ []
first_given = refl

second_given : (with_body 1 other (record none { funcs = func 0 ∷ func 1 ∷ [] })).funcs ≡ func 0 ∷ record { ty = 1; body = other } ∷ []
second_given = refl

-- ---- the first export of a name goes, and none where none has it

first_goes : without_first (97 ∷ []) (export_of 98 0 ∷ export_of 97 1 ∷ export_of 97 2 ∷ []) ≡ Some (export_of 98 0 ∷ export_of 97 2 ∷ [])
first_goes = refl

none_named : without_first (98 ∷ []) (export_of 97 0 ∷ []) ≡ None
none_named = refl
