use Rattle.std.proofs.Common.{◌≡◌, length}
use Rattle.wk_list.specs.Text.{all_visible}
use Rattle.wk_list.proofs.text.are_visible.Given as goal

abbrev pub invariant-loop-b : goal.invariant-loop-b
invariant-loop-b l = all_visible l.rest ≡ all_visible l.name

abbrev pub decreases-loop-b : goal.decreases-loop-b
decreases-loop-b l = length l.rest
