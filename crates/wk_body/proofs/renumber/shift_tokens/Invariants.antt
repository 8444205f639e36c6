use Rattle.std.proofs.Common.{◌≡◌, ◌++◌, take, drop, map}
use Rattle.wk_body.specs.Moved.{moved_kept}
use Rattle.wk_body.proofs.renumber.shift_tokens.Given as goal

abbrev pub invariant-loop-token : goal.invariant-loop-token
invariant-loop-token l = l.tokens ≡ map (moved_kept l.kind l.from) (take l.token-index l.fn.tokens) ++ drop l.token-index l.fn.tokens
