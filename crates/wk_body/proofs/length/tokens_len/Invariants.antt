use Rattle.std.proofs.Common.{◌≡◌, ◌-◌, ◌^◌, length, take, min}
use Rattle.std.specs.List.{flat_map}
use Rattle.wk_body.specs.Kept.{all_told}
use Rattle.wk_body.specs.Written.{tok_bytes}
use Rattle.wk_body.proofs.length.tokens_len.Given as goal

abbrev pub invariant-loop-token : goal.invariant-loop-token
invariant-loop-token l = l.total ≡ min (length (flat_map tok_bytes (all_told l.labels (take l.token-index l.tokens)))) (2 ^ 64 - 1)
