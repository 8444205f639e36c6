use Rattle.std.proofs.Common.{◌≡◌, ◌≤◌, map, take, length}
use Rattle.wk_check.proofs.judging.types_of.Given as goal

abbrev pub invariant-loop-func : goal.invariant-loop-func
invariant-loop-func l =
    (length l.funcs ≤ l.types.cap) × (l.types.items ≡ map (λ f. f.ty) (take l.func-index l.funcs))
