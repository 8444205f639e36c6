use Rattle.wk_judging.proofs.JudgedSteps.{IsOnWay}
use Rattle.wk_judging.proofs.judge_sections.Workspace.judge_front.Given as goal

abbrev pub invariant-loop-section : goal.invariant-loop-section
invariant-loop-section l = record {
  can : (goal.iterator-loop-section).can_next l.left;
  ends : (goal.iterator-loop-section).is_finite l.left;
  on_way : IsOnWay l.profile l.initial.left l.self.context l.left l.fault;
}
