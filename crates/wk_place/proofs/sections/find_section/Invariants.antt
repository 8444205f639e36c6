use Rattle.std.proofs.Common.{◌≡◌}
use Rattle.wk_bytes.specs.Frames.{sections_of}
use Rattle.wk_place.specs.Seeking.{first_with}
use Rattle.wk_place.proofs.sections.find_section.Given as goal

abbrev pub invariant-loop-section : goal.invariant-loop-section
invariant-loop-section l = record {
  can : (goal.iterator-loop-section).can_next l.section-iterator;
  ends : (goal.iterator-loop-section).is_finite l.section-iterator;
  same : first_with l.id l.section-iterator ≡ first_with l.id (sections_of l.bytes);
}
