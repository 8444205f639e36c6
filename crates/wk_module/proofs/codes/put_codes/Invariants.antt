use Rattle.std.proofs.Common.{◌≡◌, ◌++◌, length, take}
use Rattle.wk_bytes.specs.Short.{short}
use Rattle.wk_module.proofs.Lengths.{codes_of}
use Rattle.wk_module.proofs.codes.put_codes.Given as goal

abbrev pub invariant-loop-func : goal.invariant-loop-func
invariant-loop-func l = l.bytes.items ≡ (l.fn.bytes.items ++ short (length l.funcs)) ++ codes_of (take (length l.yielded) l.funcs)
