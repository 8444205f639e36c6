use Rattle.std.proofs.Common.{◌++◌}
use Rattle.wk_list.specs.Details.{details_text}
use Rattle.wk_list.proofs.IdSteps.{details_from}
use Rattle.wk_list.proofs.TakenLemmas.{IsLeft}
use Rattle.wk_list.proofs.details.list_details.Given as goal

abbrev pub invariant-loop-id : goal.invariant-loop-id
invariant-loop-id g l = IsLeft g.W.Out.taken g.W.Out.failed l.fn.out l.out
    (l.fn.text.items ++ details_text (g.S.Sketch.seen l.sketch)) (l.text.items ++ details_from (g.S.Sketch.seen l.sketch) l.id)
