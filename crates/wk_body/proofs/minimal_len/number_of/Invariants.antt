use Rattle.std.proofs.Common.{◌≡◌, take, reverse}
use Rattle.wk_body.specs.Minimal.{number_of}
use Rattle.wk_body.proofs.minimal_len.number_of.Given as goal

abbrev pub invariant-loop-block : goal.invariant-loop-block
invariant-loop-block l = l.number ≡ number_of (reverse (take l.block-index l.blocks))
