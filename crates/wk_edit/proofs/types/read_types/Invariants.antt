use Rattle.std.proofs.Common.{◌≡◌}
use Rattle.wk_edit.specs.Words.{all_named, types_of}
use Rattle.wk_edit.proofs.ScriptSteps.{onto}
use Rattle.wk_edit.proofs.types.read_types.Given as goal

abbrev pub invariant-loop-piece : goal.invariant-loop-piece
invariant-loop-piece l = onto l.types (all_named l.piece-iterator) ≡ types_of l.fn.word
