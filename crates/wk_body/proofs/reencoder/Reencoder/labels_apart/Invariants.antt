use Rattle.std.proofs.Common.{◌-◌}
use Rattle.wk_body.proofs.Walking.{LabelsPassed}
use Rattle.wk_body.proofs.reencoder.Reencoder.labels_apart.Given as goal

abbrev pub invariant-loop : goal.invariant-loop
invariant-loop l = LabelsPassed l.count (l.count - l.counter) l.fn.out.items l.fn.self l.out.items l.coder
