use Rattle.std.proofs.Common.{◌≡◌}
use Rattle.std.specs.List.{list_any}
use Rattle.wk_session.specs.Dependents.{differs_in}
use Rattle.wk_session.proofs.judged.is_retyped.Given as goal

abbrev pub invariant-loop-reference : goal.invariant-loop-reference
invariant-loop-reference g l =
    let other = differs_in (g.O.Env.answers l.old) (g.N.Env.answers l.new) in
    list_any other l.reference-iterator ≡ list_any other l.refs.keys
