-- How many imports are of a kind: they come first in the index space of that kind (2.5.1).
use Rattle.std.specs.Prelude.{◌≡◌, ℕ, ◌+◌, Bool, true, false, if◌then◌else◌, Option, Some, List, [], ◌∷◌}
use Rattle.wk_module.specs.declared.types.Import.{Import}
use Rattle.wk_module.specs.declared.types.ImportDesc.{ImportDesc}
use Rattle.wk_module.specs.declared.types.ImportDesc.TheVariants as desc
use Rattle.wk_module.specs.declared.types.Kind.{Kind}
use Rattle.wk_module.specs.declared.types.Kind.TheVariants.{Func, Table, Memory, Global}
use Rattle.wk_module.specs.Sections.{SectionId, FunctionSection, TableSection, MemorySection, GlobalSection}
use Rattle.wk_list.specs.declared.spaces.Counts.{Counts}

-- whether what is imported is of the kind
abbrev pub is_of : Kind → ImportDesc → Bool
is_of Func (desc.Func x) = true
is_of Table (desc.Table l) = true
is_of Memory (desc.Memory l) = true
is_of Global (desc.Global g) = true
is_of _ _ = false

-- how many imports are of the kind
abbrev pub count_of : Kind → List Import → ℕ
count_of kind [] = 0
count_of kind (i ∷ is) = (if is_of kind i.desc then 1 else 0) + count_of kind is

-- the index of the first item of a section
abbrev pub first_index : Option SectionId → List Import → ℕ
first_index (Some FunctionSection) imports = count_of Func imports
first_index (Some TableSection) imports = count_of Table imports
first_index (Some MemorySection) imports = count_of Memory imports
first_index (Some GlobalSection) imports = count_of Global imports
first_index _ imports = 0

-- these are as many as the imports have of each kind
pub record AreCounted (c : Counts) (imports : List Import) : Type 0 where
  pub funcs_are : c.funcs ≡ count_of Func imports
  pub tables_are : c.tables ≡ count_of Table imports
  pub memories_are : c.memories ≡ count_of Memory imports
  pub globals_are : c.globals ≡ count_of Global imports
