use Rattle.std.proofs.Common.{◌≡◌, ℕ}
use Rattle.wk_bytes.specs.Frames.{sections_of}
use Rattle.wk_module.specs.ListReading.{Rise}
use Rattle.wk_module.specs.Reading.{sections_read}
use Rattle.wk_module.proofs.module_read.PartialModule.read_sections.Given as goal

abbrev pub invariant-loop-section : goal.invariant-loop-section
invariant-loop-section l = record {
  can : (goal.iterator-loop-section).can_next l.section-iterator;
  ends : (goal.iterator-loop-section).is_finite l.section-iterator;
  left : sections_read l.profile l.self l.section-iterator ≡ sections_read l.profile l.initial.self (sections_of l.bytes);
  rise : (last : ℕ) × Rise last l.section-iterator;
}
