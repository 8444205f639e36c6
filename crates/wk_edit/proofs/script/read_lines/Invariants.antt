use Rattle.std.proofs.Common.{◌≡◌, ◌+◌, length}
use Rattle.wk_edit.specs.Script.{lines_from, script_of}
use Rattle.wk_edit.proofs.ScriptSteps.{with_edits}
use Rattle.wk_edit.specs.Pieces.{pieces}
use Rattle.wk_edit.proofs.script.read_lines.Given as goal

abbrev pub invariant-loop-line : goal.invariant-loop-line
invariant-loop-line l = record {
  said : with_edits l.edits.items (lines_from (l.number + 1) l.line-iterator) ≡ script_of l.bytes;
  count : l.number + length l.line-iterator ≡ length (pieces 10 l.bytes);
}
