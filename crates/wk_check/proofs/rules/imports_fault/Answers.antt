use Rattle.std.proofs.Common.{[], length, take, ap, arith, ◌∙◌}
use Rattle.wk_check.specs.Items.{import_flaw}
use Rattle.wk_check.specs.Spaces.{and_more, table_in, memory_in}
use Rattle.wk_check.proofs.Flaws.{fine_step, imported_step}
use Rattle.wk_check.proofs.rules.imports_fault.Goals as goal
use Rattle.wk_check.proofs.rules.imports_fault.Goals.{in-Func, in-Table, in-Memory, in-Global}

pub loop-index-preserved : goal.loop-index-preserved
loop-index-preserved c =
    let import = c.index-imports-index.result in
    let tables = imported_step table_in c.args.imports.now c.loop-index.index import c.loop-index-test.true c.index-imports-index.is in
    let memories = imported_step memory_in c.args.imports.now c.loop-index.index import c.loop-index-test.true c.index-imports-index.is in
    record {
      tables_are = elim c.match-import.branch [
        | in-Func w ↦ omega (arith, ap (λ d. length (and_more (table_in d) [])) w.in-Func.is)
        | in-Table w ↦ omega (arith, ap (λ d. length (and_more (table_in d) [])) w.in-Table.is)
        | in-Memory w ↦ omega (arith, ap (λ d. length (and_more (table_in d) [])) w.in-Memory.is)
        | in-Global w ↦ omega (arith, ap (λ d. length (and_more (table_in d) [])) w.in-Global.is)
      ];
      memories_are = elim c.match-import.branch [
        | in-Func w ↦ omega (arith, ap (λ d. length (and_more (memory_in d) [])) w.in-Func.is)
        | in-Table w ↦ omega (arith, ap (λ d. length (and_more (memory_in d) [])) w.in-Table.is)
        | in-Memory w ↦ omega (arith, ap (λ d. length (and_more (memory_in d) [])) w.in-Memory.is)
        | in-Global w ↦ omega (arith, ap (λ d. length (and_more (memory_in d) [])) w.in-Global.is)
      ];
      rest_is = c.loop-index.invariant.rest_is ∙ fine_step (λ item i. import_flaw c.args.types.now (take item c.args.imports.now) i.desc) 2
          c.loop-index.index c.args.imports.now import c.loop-index-test.true c.index-imports-index.is cc;
    }
