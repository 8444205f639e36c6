use Rattle.std.proofs.Common.{◌≡◌, Bool, List, ◌++◌}
use Rattle.wk_body.specs.Minimal.{number_of}
use Rattle.wk_body.proofs.OpenBlocks.{Turning, Opening}
use Rattle.wk_body.proofs.reencode.spill.Given as goal

abbrev pub invariant-loop-left : goal.invariant-loop-left
invariant-loop-left l = (ks : List Bool) → l.inner ≡ number_of ks → Turning l.turned l.left ks

abbrev pub decreases-loop-left : goal.decreases-loop-left
decreases-loop-left l = l.left

abbrev pub invariant-loop-turned : goal.invariant-loop-turned
invariant-loop-turned l = (ks : List Bool) → l.inner ≡ number_of ks → Opening l.turned l.reader.kinds (ks ++ l.fn.reader.kinds)

abbrev pub decreases-loop-turned : goal.decreases-loop-turned
decreases-loop-turned l = l.turned
