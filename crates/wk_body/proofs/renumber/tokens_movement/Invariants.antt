use Rattle.std.proofs.Common.{◌≡◌, [], take}
use Rattle.std.specs.List.{flat_map}
use Rattle.wk_body.specs.Kept.{all_told}
use Rattle.wk_body.specs.References.{tok_refs}
use Rattle.wk_body.specs.Moves.{movement_of}
use Rattle.wk_body.proofs.renumber.tokens_movement.Given as goal

abbrev pub invariant-loop-token : goal.invariant-loop-token
invariant-loop-token l = l.found ≡ movement_of l.kind l.from (flat_map tok_refs (all_told [] (take l.token-index l.tokens)))
