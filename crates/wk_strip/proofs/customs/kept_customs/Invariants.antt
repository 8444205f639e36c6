use Rattle.wk_strip.proofs.Staying.{IsLeft}
use Rattle.wk_strip.proofs.customs.kept_customs.Given as goal

abbrev pub invariant-loop-section : goal.invariant-loop-section
invariant-loop-section l = record {
  can : (goal.iterator-loop-section).can_next l.section-iterator;
  ends : (goal.iterator-loop-section).is_finite l.section-iterator;
  left : IsLeft l.name l.bytes l.place l.kept.items l.section-iterator;
}
