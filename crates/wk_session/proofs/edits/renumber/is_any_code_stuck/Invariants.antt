use Rattle.std.proofs.Common.{◌≡◌, false, take}
use Rattle.std.specs.List.{list_any}
use Rattle.wk_session.specs.MovedEntries.{uses_movement}
use Rattle.wk_session.proofs.edits.renumber.is_any_code_stuck.Given as goal

abbrev pub invariant-loop-set : goal.invariant-loop-set
invariant-loop-set l = list_any (λ s. (uses_movement l.kind l.from s.keys).stuck) (take l.set-index l.refs.items) ≡ false
