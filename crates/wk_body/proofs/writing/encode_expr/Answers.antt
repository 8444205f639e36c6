use Rattle.std.proofs.Common.{◌≡◌, rules}
use Rattle.wk_body.specs.Written.{written_expr}
use Rattle.wk_body.proofs.writing.encode_expr.Goals as goal

pub returns-clause-spells : goal.returns-clause-spells
returns-clause-spells c =
    let written : c.append_expr.new.out.items ≡ written_expr c.args.expr.now = search rules in
    λ profile of. rw written (c.append_expr.ensures.spells profile of)
