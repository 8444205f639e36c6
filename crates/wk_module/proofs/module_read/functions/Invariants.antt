use Rattle.std.proofs.Common.{◌≡◌, ◌≤◌, length, vec_len, vec_capacity}
use Rattle.wk_module.specs.Reading.{zipped}
use Rattle.wk_module.proofs.module_read.functions.Given as goal

abbrev pub invariant-loop-body : goal.invariant-loop-body
invariant-loop-body l = record {
  made : l.funcs.items ≡ zipped l.indices l.yielded;
  len : vec_len l.funcs ≡ length l.yielded;
  room : length l.indices ≤ vec_capacity l.funcs;
}
