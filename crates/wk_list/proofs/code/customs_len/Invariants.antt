use Rattle.std.proofs.Common.{◌≡◌, ◌+◌, length, drop}
use Rattle.wk_module.specs.Writing.{customs_at}
use Rattle.wk_list.proofs.code.customs_len.Given as goal

abbrev pub invariant-loop-index : goal.invariant-loop-index
invariant-loop-index g l = l.total + length (customs_at l.place (drop l.index (g.S.Shape.seen l.shape).customs))
    ≡ length (customs_at l.place (g.S.Shape.seen l.shape).customs)
