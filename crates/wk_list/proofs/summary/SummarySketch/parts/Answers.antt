use Rattle.wk_list.proofs.SectionTexts.{sketch_numbered}
use Rattle.wk_list.proofs.Summaries.{is_sketch}
use Rattle.wk_list.proofs.summary.SummarySketch.parts.Goals as goal

pub returns-clause-value : goal.returns-clause-value
returns-clause-value c = rw (← c.self.view_is) (is_sketch _ c.self.inside.skeleton.«module» _ c.parts.ensures.value c.self.invariant.lists)

pub returns-clause-numbered : goal.returns-clause-numbered
returns-clause-numbered c = sketch_numbered _ _ c.self.invariant.shaped
    (is_sketch _ c.self.inside.skeleton.«module» _ c.parts.ensures.value c.self.invariant.lists)
