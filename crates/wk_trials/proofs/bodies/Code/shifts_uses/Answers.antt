use Rattle.std.proofs.Common.{ap, sym, ◌∙◌}
use Rattle.wk_body.specs.declared.renumber.Movement.{Movement}
use Rattle.wk_body.specs.declared.renumber.Moving.TheVariants.{Func}
use Rattle.wk_body.specs.Moves.{movement_of}
use Rattle.wk_body.specs.References.{refs_of}
use Rattle.wk_body.specs.Tree.{Instrs}
use Rattle.wk_trials.proofs.bodies.Code.shifts_uses.Goals as goal

pub shift_uses-answer-requires : goal.shift_uses-answer-requires
shift_uses-answer-requires c =
    let moves = c.moving_of_code.ensures.uses Func 5 c.in-Ok-Some.found.keys (refs_of c.args.body.now.instrs) 4 c.in-Ok-Some.ensures.exact in
    let told = ap (λ (t : Instrs). movement_of Func 5 (refs_of t)) (sym c.expr.ensures) ∙ sym c.expr_movement.ensures in
    ap (λ (m : Movement). m.stuck) (moves ∙ told) ∙ c.if-expr_movement.false
