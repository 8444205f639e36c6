use Rattle.std.proofs.Common.{take}
use Rattle.wk_session.specs.MovedEntries.{AreMovedEntries}
use Rattle.wk_session.proofs.edits.renumber.moved_entries.Given as goal

abbrev pub invariant-loop-i : goal.invariant-loop-i
invariant-loop-i l = AreMovedEntries l.kind l.from (take l.i l.funcs) l.entries
