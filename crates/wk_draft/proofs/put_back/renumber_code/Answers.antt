use Rattle.std.proofs.Common.{ap, sym, ◌∙◌}
use Rattle.wk_body.specs.Written.{written_body}
use Rattle.wk_draft.proofs.Opened.{body_unshifted}
use Rattle.wk_draft.proofs.put_back.renumber_code.Goals as goal

pub returns-then-are_still : goal.returns-then-are_still
returns-then-are_still c = λ profile b is_code is.
    let still = c.are_still.ensures c.if-are_still.true in
    is ∙ ap written_body (sym (body_unshifted c.args.shifts still.0 still.1 b))
