use Rattle.std.proofs.Common.{◌≡◌, drop}
use Rattle.wk_body.specs.Kept.{all_told}
use Rattle.wk_typing.specs.Effects.{local_type}
use Rattle.wk_typing.specs.Levels.{run}
use Rattle.wk_typing.proofs.typing.type_tokens.Given as goal

abbrev pub invariant-loop-token : goal.invariant-loop-token
invariant-loop-token g l =
    (l.at ≡ l.token-index) × (run (g.E.Scope.answers l.env) (local_type l.f.locals.params l.f.locals.groups) l.f.results.now 0
    (all_told l.pool l.tokens) l.initial.s ≡ run (g.E.Scope.answers l.env)
    (local_type l.f.locals.params l.f.locals.groups) l.f.results.now l.token-index (all_told l.pool (drop l.token-index l.tokens)) l.s)
