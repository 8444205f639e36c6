use Rattle.std.proofs.Common.{◌≡◌, ◌≤◌, ◌^◌, Bool, List, ◌++◌}
use Rattle.wk_body.specs.Minimal.{number_of}
use Rattle.wk_body.specs.Reencoding.{GoesOn}
use Rattle.wk_body.proofs.reencode.pass_expr.Given as goal

abbrev pub invariant-loop-left : goal.invariant-loop-left
invariant-loop-left l = record {
  small : l.inner ≤ 2 ^ 62;
  goes : (ks : List Bool) × (l.inner ≡ number_of ks) × GoesOn l.profile l.fn.out.items l.fn.coder (ks ++ l.reader.kinds) l.out.items l.coder;
}

abbrev pub decreases-loop-left : goal.decreases-loop-left
decreases-loop-left l = l.left
