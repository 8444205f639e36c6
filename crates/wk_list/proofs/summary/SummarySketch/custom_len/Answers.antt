use Rattle.std.proofs.Common.{◌∙◌, ap}
use Rattle.wk_module.specs.declared.types.Parts.{Parts}
use Rattle.wk_list.specs.Sketches.{spelled}
use Rattle.wk_list.proofs.Told.{told_custom}
use Rattle.wk_list.proofs.summary.SummarySketch.custom_len.Goals as goal

pub returns : goal.returns
returns c =
    let kept = c.self.invariant in
    λ other. rw (← c.self.view_is) (c.unwrap_or.ensures ∙ told_custom (spelled c.self.inside.profile c.self.inside.bytes.now) c.as_slice.result.now
    c.args.index _ other _ (c.as_slice.ensures ∙ ap (λ (m : Parts). m.customs) (c.parts.ensures.value ∙ kept.lists)) (rw c.self.view_is c.requires)
    c.index-as_slice-index.is kept.shaped.formed.order kept.fits c.custom_len.ensures)
