use Rattle.std.proofs.Common.{◌≡◌, ◌<◌, length, slice_index_or, ap, ◌∙◌}
use Rattle.wk_module.specs.declared.types.Parts.{Parts}
use Rattle.wk_session.proofs.Keeping.{kept_fits}
use Rattle.wk_session.proofs.Shaping.{told_custom}
use Rattle.wk_session.proofs.session.SessionShape.custom_len.Goals as goal

pub returns : goal.returns
returns c =
    let m = c.self.inside.module in
    let fits = kept_fits m c.self.inside.kept c.self.invariant in
    let within : c.args.index < length m.customs = rw c.self.view_is c.requires in
    let items = c.as_slice.ensures ∙ ap (λ (n : Parts). n.customs) c.parts.ensures.value in
    let item = c.index-as_slice-index.result in
    let is : item ≡ slice_index_or m.customs c.args.index item = rw items at c.index-as_slice-index.is in
    λ other. rw (← c.self.view_is)
    (c.unwrap_or.ensures ∙ told_custom m c.args.index item other c.custom_len.result within is c.parts.ensures.shaped.formed.order fits
    c.custom_len.ensures)
