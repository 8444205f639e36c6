use Rattle.std.proofs.Common.{◌∙◌, ap}
use Rattle.wk_module.specs.declared.types.Parts.{Parts}
use Rattle.wk_list.proofs.Told.{told_custom}
use Rattle.wk_list.proofs.plain.PlainShape.custom_len.Goals as goal

pub returns : goal.returns
returns c = λ other. rw (← c.self.view_is) (c.unwrap_or.ensures ∙ told_custom (c.self.inside.whole).now c.as_slice.result.now c.args.index _ other _
    (c.as_slice.ensures ∙ ap (λ (m : Parts). m.customs) c.parts.ensures.value) (rw c.self.view_is c.requires) c.index-as_slice-index.is
    c.parts.ensures.shaped.formed.order c.self.invariant c.custom_len.ensures)
