-- The index spaces of a test that lends lists.
use Rattle.std.specs.Prelude.{ℕ, List}
use Rattle.wk_module.specs.declared.types.FuncType.{FuncType}
use Rattle.wk_module.specs.declared.types.GlobalType.{GlobalType}
use Rattle.wk_module.specs.declared.types.Limits.{Limits}
use Rattle.wk_check.specs.Spaces.{Spaces}

abbrev pub lent : List FuncType → List ℕ → List Limits → List Limits → List GlobalType → Spaces
lent types funcs tables memories globals = record {
  types = types;
  funcs = funcs;
  tables = tables;
  memories = memories;
  globals = globals;
}
