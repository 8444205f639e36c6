use Rattle.std.proofs.Common.{take}
use Rattle.wk_check.specs.Whole.{AreImported}
use Rattle.wk_check.proofs.whole.Imported.of.Given as goal

-- what the imports so far are
abbrev pub invariant-loop-import : goal.invariant-loop-import
invariant-loop-import l = AreImported (take l.import-index l.imports) l.funcs.items l.globals.items l.tables l.memories
