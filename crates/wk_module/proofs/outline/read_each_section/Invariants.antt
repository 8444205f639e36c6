use Rattle.wk_bytes.specs.Frames.{sections_of}
use Rattle.wk_module.specs.OutlineReading.{partial}
use Rattle.wk_module.proofs.Outlining.{IsReadSo}
use Rattle.wk_module.proofs.outline.read_each_section.Given as goal

abbrev pub invariant-loop-section : goal.invariant-loop-section
invariant-loop-section g l = record {
  can : (goal.iterator-loop-section g).can_next l.section-iterator;
  ends : (goal.iterator-loop-section g).is_finite l.section-iterator;
  so : IsReadSo g.K.Keep.kept l.profile l.section-iterator (sections_of l.bytes) (partial l.so_far l.kept.items);
}
