use Rattle.std.proofs.Common.{◌∙◌, ap}
use Rattle.wk_module.specs.declared.types.Parts.{Parts}
use Rattle.wk_list.proofs.Told.{told_body}
use Rattle.wk_list.proofs.plain.PlainShape.body_len.Goals as goal

pub returns : goal.returns
returns c = λ other. rw (← c.self.view_is) (c.unwrap_or.ensures ∙ told_body (c.self.inside.whole).now c.as_slice.result.now c.args.index _ other _
    (c.as_slice.ensures ∙ ap (λ (m : Parts). m.funcs) c.parts.ensures.value) (rw c.self.view_is c.requires) c.index-as_slice-index.is
    c.self.invariant c.body_len.ensures)
