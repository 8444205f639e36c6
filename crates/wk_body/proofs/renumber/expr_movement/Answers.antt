use Rattle.std.proofs.Common.{◌∙◌, ap}
use Rattle.wk_body.specs.Moves.{movement_of}
use Rattle.wk_body.proofs.TreeRefs.{kept_refs}
use Rattle.wk_body.proofs.renumber.expr_movement.Goals as goal

pub returns : goal.returns
returns c = c.tokens_movement.ensures ∙ ap (movement_of c.args.kind c.args.from)
    (kept_refs c.tokens.result.1.now c.tokens.result.0.now c.args.expr.now c.tokens.ensures.tokens)
