use Rattle.std.proofs.Common.{◌≡◌, ℕ}
use Rattle.wk_module.specs.Listed.{AreNumbered}
use Rattle.wk_module.specs.ListReading.{lists_read, Rise}
use Rattle.wk_module.proofs.module_read.PartialModule.read_left.Given as goal

abbrev pub invariant-loop-section : goal.invariant-loop-section
invariant-loop-section l = record {
  can : (goal.iterator-loop-section).can_next l.left;
  ends : (goal.iterator-loop-section).is_finite l.left;
  reads : lists_read l.profile l.self.lists l.left ≡ lists_read l.profile l.initial.self.lists l.initial.left;
  rise : (last : ℕ) × Rise last l.left;
  few : AreNumbered l.self.lists;
}
