use Rattle.std.proofs.Common.{◌≡◌}
use Rattle.wk_module.specs.Sections.{SectionLists}
use Rattle.wk_judging.specs.Contexts.{AreOmittedFrom, context_of}
use Rattle.wk_judging.proofs.JudgedSteps.{IsOnWayBehind, RiseBehind}
use Rattle.wk_judging.proofs.judge_sections.Workspace.judge_behind.Given as goal

abbrev pub invariant-loop-section : goal.invariant-loop-section
invariant-loop-section l = record {
  can : (goal.iterator-loop-section).can_next l.left;
  ends : (goal.iterator-loop-section).is_finite l.left;
  rise : RiseBehind l.left;
  on_way : (from : SectionLists) → l.initial.self.context ≡ context_of from → AreOmittedFrom 11 from
      → IsOnWayBehind l.profile from l.initial.fault l.initial.left l.self.context l.left l.fault;
}
