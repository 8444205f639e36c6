use Rattle.std.proofs.Common.{◌≡◌, ◌||◌}
use Rattle.wk_body.specs.Moves.{any_moving}
use Rattle.wk_body.specs.References.{any_stuck}
use Rattle.wk_session.proofs.edits.renumber.refs_movement.Given as goal

abbrev pub invariant-loop-reference : goal.invariant-loop-reference
invariant-loop-reference l = record {
  moves : (l.found.moves || any_moving l.kind l.from l.reference-iterator) ≡ any_moving l.kind l.from l.refs.keys;
  stuck : (l.found.stuck || any_stuck l.kind l.from l.reference-iterator) ≡ any_stuck l.kind l.from l.refs.keys;
}
