use Rattle.std.proofs.Common.{map, refl, sym, ◌∙◌}
use Rattle.std.proofs.lemmas.List.{length-map}
use Rattle.wk_module.specs.declared.types.GlobalDef.{GlobalDef}
use Rattle.wk_module.specs.Listed.{listed}
use Rattle.wk_typing.specs.declared.fault.FaultKind.TheVariants.{UnknownFunc, UnknownTable, UnknownMemory, UnknownGlobal}
use Rattle.wk_check.specs.Spaces.{imported, func_in, table_in, memory_in, global_in}
use Rattle.wk_check.specs.SpacesLaws.{imported_funcs, imported_globals}
use Rattle.wk_check.proofs.Imported.{imported_tables, imported_memories, flaw_beyond_is}
use Rattle.wk_check.proofs.exports.flaw_of_listed_index.Goals as goal

pub returns-in-Func : goal.returns-in-Func
returns-in-Func c =
    let l = listed c.args.lists.now in
    rw c.in-Func.is (flaw_beyond_is UnknownFunc (imported func_in l.imports) l.funcs _ _ _ _ c.flaw_beyond.ensures
    (imported_funcs l.imports ∙ sym (rw c.in-Func.is at c.import_count-imported.ensures)) refl)

pub returns-in-Table : goal.returns-in-Table
returns-in-Table c =
    let l = listed c.args.lists.now in
    rw c.in-Table.is (flaw_beyond_is UnknownTable (imported table_in l.imports) l.tables _ _ _ _ c.flaw_beyond-in-Table.ensures
    (imported_tables l.imports ∙ sym (rw c.in-Table.is at c.import_count-imported.ensures)) refl)

pub returns-in-Memory : goal.returns-in-Memory
returns-in-Memory c =
    let l = listed c.args.lists.now in
    rw c.in-Memory.is (flaw_beyond_is UnknownMemory (imported memory_in l.imports) l.memories _ _ _ _ c.flaw_beyond-in-Memory.ensures
    (imported_memories l.imports ∙ sym (rw c.in-Memory.is at c.import_count-imported.ensures)) refl)

pub returns-in-Global : goal.returns-in-Global
returns-in-Global c =
    let l = listed c.args.lists.now in
    rw c.in-Global.is (flaw_beyond_is UnknownGlobal (imported global_in l.imports)
    (map (λ (g : GlobalDef). g.ty) l.globals) _ _ _ _ c.flaw_beyond-in-Global.ensures
    (imported_globals l.imports ∙ sym (rw c.in-Global.is at c.import_count-imported.ensures)) (length-map l.globals (λ (g : GlobalDef). g.ty)))
