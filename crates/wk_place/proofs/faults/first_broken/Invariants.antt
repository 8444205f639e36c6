use Rattle.std.proofs.Common.{◌≡◌, ◌-◌}
use Rattle.wk_bytes.specs.Raw.{raw_view}
use Rattle.wk_module.specs.Reading.{section_end}
use Rattle.wk_place.specs.Seeking.{broken_from, broken_at}
use Rattle.wk_place.proofs.faults.first_broken.Given as goal

abbrev pub invariant-loop-item : goal.invariant-loop-item
invariant-loop-item l = record {
  end : l.cursor.end ≡ section_end (raw_view l.section);
  so_far : broken_from l.profile l.item (l.count - l.item) l.cursor.end l.cursor.rest
      ≡ broken_at l.profile (section_end (raw_view l.section)) l.section.contents.now;
}
