use Rattle.std.proofs.Common.{◌∙◌, length, sym, ap}
use Rattle.wk_check.specs.Items.{import_flaw_by}
use Rattle.wk_check.specs.Spaces.{imported, table_in}
use Rattle.wk_check.proofs.Imported.{imported_tables, imported_memories}
use Rattle.wk_check.proofs.rules.flaw_of_next_import.Goals as goal

pub returns : goal.returns
returns c =
    let types = c.args.lists.now.types.now in
    let imports = c.args.lists.now.imports.now in
    c.flaw_of_import.ensures
    ∙ ap (λ n. import_flaw_by (length types) n c.import_count-memories.result c.args.desc.now) (c.import_count-tables.ensures ∙ sym (imported_tables imports))
    ∙ ap (λ n. import_flaw_by (length types) (length (imported table_in imports)) n c.args.desc.now)
    (c.import_count-memories.ensures ∙ sym (imported_memories imports))
