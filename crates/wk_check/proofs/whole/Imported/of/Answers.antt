use Rattle.std.proofs.Common.{refl, arith}
use Rattle.std.proofs.lemmas.List.{append-nil}
use Rattle.wk_module.specs.declared.types.ImportDesc.TheVariants as desc
use Rattle.wk_check.specs.Spaces.{table_in, memory_in}
use Rattle.wk_check.proofs.Imported.{and_next, few_imported}
use Rattle.wk_check.proofs.whole.Imported.of.Goals as goal
use Rattle.wk_check.proofs.whole.Imported.of.Goals.{in-Func+in_ok-add-in-Func, in-Table, in-Memory, in-Global+in_ok-push-in-Global}

pub overflow_add-tables : goal.overflow_add-tables
overflow_add-tables c =
    let few = few_imported table_in c.args.imports.now c.loop-import.import-index c.loop-import.tables (omega arith) c.loop-import.invariant.tables_are in
    omega arith

pub overflow_add-memories : goal.overflow_add-memories
overflow_add-memories c =
    let few = few_imported memory_in c.args.imports.now c.loop-import.import-index c.loop-import.memories (omega arith) c.loop-import.invariant.memories_are in
    omega arith

pub loop-import-preserved : goal.loop-import-preserved
loop-import-preserved c =
    let is = c.args.imports.now in
    let n = c.loop-import.import-index in
    let fs = c.loop-import.funcs.items in
    let gs = c.loop-import.globals.items in
    let t = c.loop-import.tables in
    let m = c.loop-import.memories in
    elim c.match-import.branch [
      | in-Func+in_ok-add-in-Func w ↦
          rw (w.funcs-is, w.globals-is, w.tables-is, w.memories-is, w.in_ok-add-in-Func.ensures)
          (and_next is n c.import-item.result (desc.Func w.in-Func.ty) fs _ gs _ t _ m _ c.loop-import-test.true c.import-item.is w.in-Func.is
          c.loop-import.invariant refl (append-nil gs) (omega arith) (omega arith))
      | in-Table w ↦
          rw (w.funcs-is, w.globals-is, w.tables-is, w.memories-is)
          (and_next is n c.import-item.result (desc.Table w.in-Table.field-0) fs _ gs _ t _ m _ c.loop-import-test.true c.import-item.is w.in-Table.is
          c.loop-import.invariant (append-nil fs) (append-nil gs) refl (omega arith))
      | in-Memory w ↦
          rw (w.funcs-is, w.globals-is, w.tables-is, w.memories-is)
          (and_next is n c.import-item.result (desc.Memory w.in-Memory.field-0) fs _ gs _ t _ m _ c.loop-import-test.true c.import-item.is
          w.in-Memory.is c.loop-import.invariant (append-nil fs) (append-nil gs) (omega arith) refl)
      | in-Global+in_ok-push-in-Global w ↦
          rw (w.funcs-is, w.globals-is, w.tables-is, w.memories-is, w.in_ok-push-in-Global.ensures.items)
          (and_next is n c.import-item.result (desc.Global w.in-Global.ty) fs _ gs _ t _ m _ c.loop-import-test.true c.import-item.is w.in-Global.is
          c.loop-import.invariant (append-nil fs) refl (omega arith) (omega arith))
    ]
