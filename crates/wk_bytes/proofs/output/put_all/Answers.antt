use Rattle.std.proofs.Common.{◌∙◌}
use Rattle.wk_bytes.proofs.TakenLemmas.{front_more}
use Rattle.wk_bytes.proofs.output.put_all.Goals as goal

pub loop-rest-preserved : goal.loop-rest-preserved
loop-rest-preserved g c = record {
  so_far = rw c.split_at.ensures.back (front_more _ _ c.in_ok-n.n _ _ _ c.loop-rest.invariant.so_far c.in_ok-n.ensures.bytes);
  failures = c.in_ok-n.ensures.failures ∙ c.loop-rest.invariant.failures;
}
