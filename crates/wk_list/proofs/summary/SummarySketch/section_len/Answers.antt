use Rattle.std.proofs.Common.{◌∙◌}
use Rattle.wk_list.proofs.Summaries.{told_apart}
use Rattle.wk_list.proofs.summary.SummarySketch.section_len.Goals as goal

pub returns-else-id-eq-CODE : goal.returns-else-id-eq-CODE
returns-else-id-eq-CODE c =
    let kept = c.self.invariant in
    rw (← c.self.view_is) (c.unwrap_or.ensures ∙ told_apart _ c.self.inside.skeleton.«module» c.args.id c.section_len.result kept.lists
    c.if-id-eq-CODE.false c.section_len.ensures kept.fits)
