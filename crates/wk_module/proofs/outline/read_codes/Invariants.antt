use Rattle.std.proofs.Common.{◌≡◌, ◌-◌}
use Rattle.wk_bytes.specs.Raw.{raw_view}
use Rattle.wk_body.specs.Vectors.{items_at}
use Rattle.wk_module.specs.OutlineReading.{code_aside_at, codes_aside_at}
use Rattle.wk_module.specs.Reading.{section_end}
use Rattle.wk_module.proofs.VectorReading.{with_front}
use Rattle.wk_module.proofs.outline.read_codes.Given as goal

abbrev pub invariant-loop : goal.invariant-loop
invariant-loop g l = record {
  reads : with_front l.kept.items (items_at (code_aside_at g.K.Keep.kept l.profile) (l.funcs - l.counter) l.codes.end l.codes.rest)
      ≡ codes_aside_at g.K.Keep.kept l.profile l.funcs (section_end (raw_view l.section)) l.section.contents.now;
  end : l.codes.end ≡ section_end (raw_view l.section);
}
