-- Items that are read where they stand (5.5.5, 5.5.10), without a copy of their names, and function types that are lent.
use Rattle.std.specs.Prelude.{◌≡◌, ℕ, ◌≤◌, List, [], ◌∷◌, map, length, slice_range}
use Rattle.wk_body.specs.declared.types.ValType.{ValType}
use Rattle.wk_module.specs.declared.in_place.ExportRef.{ExportRef}
use Rattle.wk_module.specs.declared.type_list.TypeBounds.{TypeBounds}
use Rattle.wk_module.specs.declared.types.Export.{Export}
use Rattle.wk_module.specs.declared.types.FuncType.{FuncType}
use Rattle.wk_module.specs.declared.types.FuncTypeRef.{FuncTypeRef}
use Rattle.wk_module.specs.declared.types.Import.{Import}
use Rattle.wk_module.specs.declared.types.ImportDesc.{ImportDesc}
use Rattle.wk_module.specs.Formats.{Reader, made_at}
use Rattle.wk_module.specs.Items.{import_at}

-- an import, of which what is imported is kept
abbrev pub import_desc_at : Reader ImportDesc
import_desc_at = made_at (λ (i : Import). i.desc) import_at

-- the export whose name is lent
abbrev pub export_view : ExportRef → Export
export_view e = record { name = e.name.now; kind = e.kind; index = e.index }

-- the function type whose lists are lent
abbrev pub func_type_view : FuncTypeRef → FuncType
func_type_view t = record { params = t.params.now; results = t.results.now }

-- ---- function types whose lists lie in one list of value types

-- the function type whose parameters and results lie between bounds
abbrev pub type_within : List ValType → TypeBounds → FuncType
type_within lists b = record { params = slice_range lists b.start b.results; results = slice_range lists b.results b.end }

-- bounds that lie in order within so many value types
pub record AreWithin (len : ℕ) (b : TypeBounds) : Type 0 where
  pub params : b.start ≤ b.results
  pub results : b.results ≤ b.end
  pub fits : b.end ≤ len

-- bounds that lie in order from one place to another
pub record AreBetween (from to : ℕ) (b : TypeBounds) : Type 0 where
  pub begins : b.start ≡ from
  pub params : b.start ≤ b.results
  pub results : b.results ≤ b.end
  pub ends : b.end ≡ to

-- each type begins where the one in front of it ends, from one place to another
abbrev pub ArePacked : ℕ → List TypeBounds → ℕ → Type 0
ArePacked from [] to = from ≡ to
ArePacked from (b ∷ bounds) to = AreBetween from b.end b × ArePacked b.end bounds to

-- the types between some bounds, the first one first
abbrev pub types_within : List ValType → List TypeBounds → List FuncType
types_within lists bounds = map (type_within lists) bounds

-- some types take all value types of a list
abbrev pub AreTypesOf : List ValType → List TypeBounds → Type 0
AreTypesOf lists bounds = ArePacked 0 bounds (length lists)
