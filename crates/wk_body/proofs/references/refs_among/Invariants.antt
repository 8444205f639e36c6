use Rattle.std.proofs.Common.{[], false, take}
use Rattle.std.specs.List.{flat_map}
use Rattle.wk_body.specs.Kept.{all_told}
use Rattle.wk_body.specs.References.{tok_refs, Collects}
use Rattle.wk_body.proofs.references.refs_among.Given as goal

abbrev pub invariant-loop-token : goal.invariant-loop-token
invariant-loop-token l = Collects [] false l.found.keys l.memory (flat_map tok_refs (all_told [] (take l.token-index l.tokens)))
