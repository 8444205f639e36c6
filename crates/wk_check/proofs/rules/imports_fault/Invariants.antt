use Rattle.std.proofs.Common.{◌≡◌, length, take, drop}
use Rattle.wk_check.specs.Flaws.{numbered, first_in}
use Rattle.wk_check.specs.Items.{import_flaw}
use Rattle.wk_check.specs.Spaces.{imported, table_in, memory_in}
use Rattle.wk_check.proofs.rules.imports_fault.Given as goal

abbrev pub invariant-loop-index : goal.invariant-loop-index
invariant-loop-index l = record {
  tables_are : l.tables ≡ length (imported table_in (take l.index l.imports));
  memories_are : l.memories ≡ length (imported memory_in (take l.index l.imports));
  rest_is : first_in 2 0 (numbered (λ item i. import_flaw l.types (take item l.imports) i.desc) 0 l.imports)
      ≡ first_in 2 l.index (numbered (λ item i. import_flaw l.types (take item l.imports) i.desc) l.index (drop l.index l.imports));
}
