use Rattle.std.proofs.Common.{◌≡◌, [], drop}
use Rattle.wk_body.specs.Kept.{all_told}
use Rattle.wk_typing.specs.Constants.{first_varying_tok}
use Rattle.wk_typing.proofs.constant.first_varying.Given as goal

abbrev pub invariant-loop-at : goal.invariant-loop-at
invariant-loop-at g l = first_varying_tok (g.E.Scope.answers l.env) l.at (all_told [] (drop l.at l.tokens))
    ≡ first_varying_tok (g.E.Scope.answers l.env) 0 (all_told [] l.tokens)
