use Rattle.std.proofs.Common.{[], ◌∙◌}
use Rattle.std.proofs.lemmas.Result.{err_from_is_err_and}
use Rattle.wk_bytes.specs.Frames.{sections_of}
use Rattle.wk_bytes.specs.Raw.{raw_view}
use Rattle.wk_module.specs.OutlineReading.{partial}
use Rattle.wk_module.proofs.Outlining.{begun, one_more, stopped, broken, finished}
use Rattle.wk_module.proofs.SectionSteps.{next_item}
use Rattle.wk_module.proofs.outline.read_each_section.Goals as goal

pub loop-section-init : goal.loop-section-init
loop-section-init g c = record {
  can = tt;
  ends = tt;
  so = begun g.K.Keep.kept c.args.profile c.args.bytes.now _ c.args.so_far.now c.args.kept.now.items
      (c.into_iter-section-iterator.ensures.into_iter_gives ∙ c.new-section-items.ensures.items) c.requires.first c.requires.none;
}

pub returns-in_err-section : goal.returns-in_err-section
returns-in_err-section g c =
    let p = err_from_is_err_and c.from_residual.result c.from_residual.ensures.1 in
    let first = next_item c.in-Some.ensures.steps c.in_err-section.was in
    rw (p.1, p.2) (broken g.K.Keep.kept c.args.profile (sections_of c.args.bytes.now) _ _ _ c.loop-section.invariant.so c.in_err-section.field-0.0 first)

pub loop-section-preserved : goal.loop-section-preserved
loop-section-preserved g c =
    let so = c.loop-section.invariant.so in
    let first = next_item c.in-Some.ensures.steps c.in_ok-section.was in
    record {
      can = tt;
      ends = tt;
      so = one_more g.K.Keep.kept c.args.profile (sections_of c.args.bytes.now) _ _ _ so (raw_view c.in_ok-section.field-0)
          (partial c.read_section.new.so_far c.read_section.new.kept.items) first (c.in_ok-read_section.ensures so.so_far so.is_aside);
    }

pub returns-in_err-read_section : goal.returns-in_err-read_section
returns-in_err-read_section g c =
    let p = err_from_is_err_and c.from_residual-in_err-read_section.result c.from_residual-in_err-read_section.ensures.1 in
    let so = c.loop-section.invariant.so in
    let first = next_item c.in-Some.ensures.steps c.in_ok-section.was in
    rw (p.1, p.2) (stopped g.K.Keep.kept c.args.profile (sections_of c.args.bytes.now) _ _ _ so
    (raw_view c.in_ok-section.field-0) c.in_err-read_section.field-0.0 first (c.in_err-read_section.ensures so.so_far so.is_aside))

pub returns : goal.returns
returns g c = finished g.K.Keep.kept c.args.profile (sections_of c.args.bytes.now) _ [] _ c.loop-section.invariant.so c.in-None.ensures.steps.0
