use Rattle.std.proofs.Common.{◌≡◌, None, sym, ◌∙◌}
use Rattle.wk_module.specs.Listed.{listed}
use Rattle.wk_check.specs.Flaws.{first_in}
use Rattle.wk_check.specs.Verdict.{table_flaws, memory_flaws}
use Rattle.wk_check.proofs.Flaws.{earlier_none}
use Rattle.wk_check.proofs.judging.fault_of_storage.Goals as goal

pub returns : goal.returns
returns c =
    let l = listed c.lists-lists.result.now in
    let tables : first_in 4 0 (table_flaws l) ≡ None = sym (rw (c.imported_tables.ensures, ← c.lists-lists.ensures) at c.in_ok-fault.ensures)
    ∙ c.in_default.is in
    let memories : first_in 5 0 (memory_flaws l) ≡ None = sym (rw (c.imported_memories.ensures, ← c.lists-lists.ensures) at c.in_ok-fault-2.ensures)
    ∙ c.in_default-2.is in
    rw (← c.lists-lists.ensures, tables, memories, earlier_none) (rw (← c.lists-lists.ensures) at c.first_fault-3.ensures)
