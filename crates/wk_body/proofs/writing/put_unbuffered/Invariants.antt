use Rattle.std.proofs.Common.{◌≡◌, ◌++◌, take}
use Rattle.std.specs.List.{flat_map}
use Rattle.wk_body.specs.Kept.{all_told}
use Rattle.wk_body.specs.Written.{tok_bytes}
use Rattle.wk_body.proofs.writing.put_unbuffered.Given as goal

abbrev pub invariant-loop-token : goal.invariant-loop-token
invariant-loop-token l = l.out.items ≡ l.fn.out.items ++ flat_map tok_bytes (all_told l.labels (take l.token-index l.tokens))
