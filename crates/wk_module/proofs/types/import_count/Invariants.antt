use Rattle.std.proofs.Common.{◌≡◌, ◌+◌, ◌≤◌, drop}
use Rattle.wk_module.specs.Imports.{import_count}
use Rattle.wk_module.proofs.types.import_count.Given as goal

abbrev pub invariant-loop-import : goal.invariant-loop-import
invariant-loop-import l = record {
  counts : l.count + import_count l.kind (drop l.import-index l.imports) ≡ import_count l.kind l.imports;
  few : l.count ≤ l.import-index;
}
