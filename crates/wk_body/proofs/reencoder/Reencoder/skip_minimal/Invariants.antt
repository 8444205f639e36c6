use Rattle.std.proofs.Common.{◌≡◌, ◌+◌, ◌-◌, ◌^◌, ◌≤◌, Bool, List, length}
use Rattle.wk_body.specs.Minimal.{number_of}
use Rattle.wk_body.specs.Shape.{depth_limit}
use Rattle.wk_body.specs.Reencoding.{BlocksPass}
use Rattle.wk_body.proofs.MinimalWalk.{later}
use Rattle.wk_body.proofs.reencoder.Reencoder.skip_minimal.Given as goal

abbrev pub invariant-loop-at : goal.invariant-loop-at
invariant-loop-at l = record {
  within : l.at ≤ length l.bytes;
  small : l.inner ≤ 2 ^ 62;
  goes : (ks below : List Bool) → l.fn.blocks ≡ number_of ks → length below + 64 ≤ depth_limit → BlocksPass l.fn.self (later l.fn.self l.at) l.inner ks below;
}

abbrev pub decreases-loop-at : goal.decreases-loop-at
decreases-loop-at l = length l.bytes - l.at
