use Rattle.std.proofs.Common.{◌≡◌, ◌≤◌, length, take, vec_len, vec_capacity}
use Rattle.wk_module.specs.Codes.{body_sizes}
use Rattle.wk_module.proofs.codes.sizes_of_bodies.Given as goal

abbrev pub invariant-loop-func : goal.invariant-loop-func
invariant-loop-func l = record {
  sized : l.sizes.items ≡ body_sizes (take l.func-index l.funcs);
  len : vec_len l.sizes ≡ l.func-index;
  room : length l.funcs ≤ vec_capacity l.sizes;
}
