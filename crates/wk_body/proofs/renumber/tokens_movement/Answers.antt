use Rattle.std.proofs.Common.{◌∙◌, sym, take, get_or}
use Rattle.std.proofs.lemmas.List.{take_more}
use Rattle.wk_body.specs.declared.token.Token.TheVariants.{Unreachable}
use Rattle.wk_body.proofs.Unmoved.{movement_more}
use Rattle.wk_body.proofs.renumber.tokens_movement.Goals as goal

pub loop-token-preserved : goal.loop-token-preserved
loop-token-preserved c =
    let ts = c.args.tokens.now in
    let i = c.loop-token.token-index in
    c.or-found.ensures ∙ rw (take_more ts i Unreachable c.loop-token-test.true, c.loop-token.invariant, c.token_movement.ensures)
    (sym (movement_more c.args.kind c.args.from (take i ts) (get_or ts i Unreachable)))
