use Rattle.std.proofs.Common.{◌++◌}
use Rattle.wk_module.specs.Sections.{CodeSection}
use Rattle.wk_list.specs.Details.{code_size_line, section_details}
use Rattle.wk_list.proofs.LineSteps.{lines_from}
use Rattle.wk_list.proofs.TakenLemmas.{IsLeft}
use Rattle.wk_list.proofs.details.list_codes.Given as goal

abbrev pub invariant-loop-index : goal.invariant-loop-index
invariant-loop-index g l = IsLeft g.W.Out.taken g.W.Out.failed l.fn.out l.out
    (l.fn.text.items ++ section_details (g.S.Sketch.seen l.sketch) CodeSection)
    (l.text.items ++ lines_from code_size_line l.imported l.index (g.S.Sketch.seen l.sketch).funcs)
