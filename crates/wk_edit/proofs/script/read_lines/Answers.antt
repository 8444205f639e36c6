use Rattle.wk_edit.proofs.ScriptSteps.{edit_step, count_step}
use Rattle.wk_edit.proofs.script.read_lines.Goals as goal

pub loop-line-preserved-in-Continue-branch-3 : goal.loop-line-preserved-in-Continue-branch-3
loop-line-preserved-in-Continue-branch-3 c = record {
  said = edit_step _ _ _ _ _ _ _ _ _ c.in-Some.ensures.steps c.in_ok-edit.ensures c.in-Some-2.is c.in_ok-push.ensures.items c.loop-line.invariant.said;
  count = count_step _ _ _ _ _ c.in-Some.ensures.steps c.loop-line.invariant.count;
}
