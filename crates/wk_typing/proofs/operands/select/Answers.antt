use Rattle.std.proofs.Common.{Ok, ap, sym, ◌∙◌}
use Rattle.wk_typing.specs.Moves.{pushed_on}
use Rattle.wk_typing.proofs.Popping.{selects}
use Rattle.wk_typing.proofs.operands.select.Goals as goal

pub returns : goal.returns
returns c =
    selects c.args.s.now c.pop_known.new.s c.pop_val.new.self c.pop_as.new.s _ c.in_ok-second.second c.in_ok-first.first c.in_ok-pop_known.ensures
    c.in_ok-second.ensures c.in_ok-first.ensures
    ∙ ap Ok (ap (λ z. pushed_on z c.pop_as.new.s) (sym c.or.ensures) ∙ sym c.in_ok-push_val.ensures)
