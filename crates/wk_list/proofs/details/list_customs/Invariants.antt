use Rattle.std.proofs.Common.{◌++◌, drop}
use Rattle.wk_list.proofs.CustomSteps.{details_at}
use Rattle.wk_list.proofs.TakenLemmas.{IsLeft}
use Rattle.wk_list.proofs.details.list_customs.Given as goal

abbrev pub invariant-loop-custom : goal.invariant-loop-custom
invariant-loop-custom g l = IsLeft g.W.Out.taken g.W.Out.failed l.fn.out l.out
    (l.fn.text.items ++ details_at l.place l.customs) (l.text.items ++ details_at l.place (drop l.custom-index l.customs))
