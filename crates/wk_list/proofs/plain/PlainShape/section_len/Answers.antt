use Rattle.std.proofs.Common.{◌∙◌, arith}
use Rattle.wk_module.specs.Sections.{of_number}
use Rattle.wk_module.specs.Shape.{lists_of}
use Rattle.wk_module.specs.WritingLaws.{contents_within}
use Rattle.wk_list.proofs.Told.{told_section}
use Rattle.wk_list.proofs.plain.PlainShape.section_len.Goals as goal

pub returns : goal.returns
returns c =
    let m = (c.self.inside.whole).now in
    rw (← c.self.view_is)
    (c.unwrap_or.ensures ∙ told_section (lists_of m) (of_number c.args.id) c.section_len.result c.section_len.ensures
    (omega (arith, contents_within m (of_number c.args.id), c.self.invariant)))
