use Rattle.std.proofs.Common.{◌≡◌, ◌++◌, map}
use Rattle.wk_edit.specs.Pieces.{pieces}
use Rattle.wk_edit.proofs.line.split.Given as goal

abbrev pub invariant-loop-word : goal.invariant-loop-word
invariant-loop-word l = map (λ w. w.now) l.words.items ++ l.word-iterator ≡ pieces 32 l.fn.bytes
