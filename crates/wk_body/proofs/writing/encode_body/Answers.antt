use Rattle.std.proofs.Common.{◌≡◌, rules}
use Rattle.wk_body.specs.Written.{written_body}
use Rattle.wk_body.proofs.writing.encode_body.Goals as goal

pub returns-clause-spells : goal.returns-clause-spells
returns-clause-spells c =
    let written : c.append_body.new.out.items ≡ written_body c.args.body.now = search rules in
    λ profile of. rw written (c.in_ok-append_body.ensures.spells profile of)
