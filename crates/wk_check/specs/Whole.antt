-- What is counted of a module's imports, once for all references.
use Rattle.std.specs.Prelude.{◌≡◌, ℕ, List, length}
use Rattle.wk_module.specs.declared.types.GlobalType.{GlobalType}
use Rattle.wk_module.specs.declared.types.Import.{Import}
use Rattle.wk_check.specs.declared.whole.Imported.{Imported}
use Rattle.wk_check.specs.Spaces.{imported, func_in, table_in, memory_in, global_in}

-- the types of the imported functions, the imported globals, and how many tables and memories are imported
pub record AreImported (imports : List Import) (funcs : List ℕ) (globals : List GlobalType) (tables memories : ℕ) : Type 0 where
  pub funcs_are : funcs ≡ imported func_in imports
  pub globals_are : globals ≡ imported global_in imports
  pub tables_are : tables ≡ length (imported table_in imports)
  pub memories_are : memories ≡ length (imported memory_in imports)

-- that, of what was counted once
abbrev pub IsImported : List Import → Imported → Type 0
IsImported imports i = AreImported imports i.funcs.items i.globals.items i.tables i.memories
