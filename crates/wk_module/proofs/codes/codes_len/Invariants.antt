use Rattle.std.proofs.Common.{◌≡◌, length, take}
use Rattle.wk_body.specs.Lengths.{limited}
use Rattle.wk_module.proofs.Lengths.{codes_of}
use Rattle.wk_module.proofs.codes.codes_len.Given as goal

abbrev pub invariant-loop-func : goal.invariant-loop-func
invariant-loop-func l = l.total ≡ limited (length (codes_of (take l.func-index l.funcs)))
