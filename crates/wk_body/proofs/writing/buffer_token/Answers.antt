use Rattle.std.proofs.Common.{◌∙◌, append_assoc, refl}
use Rattle.wk_body.proofs.Encoding.{front_same}
use Rattle.wk_body.proofs.writing.buffer_token.Goals as goal

pub returns-in-Some-clause-front : goal.returns-in-Some-clause-front
returns-in-Some-clause-front c = front_same c.args.out.now.items c.args.out.now.items refl

pub returns-in_err-flush_then_put-clause-front : goal.returns-in_err-flush_then_put-clause-front
returns-in_err-flush_then_put-clause-front c = c.in_err-flush_then_put.ensures.err

pub returns-clause-front : goal.returns-clause-front
returns-clause-front c = (_, c.in_ok-flush_then_put.ensures.ok ∙ append_assoc c.args.out.now.items _ _)
