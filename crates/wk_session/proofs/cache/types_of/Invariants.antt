use Rattle.std.proofs.Common.{◌≡◌, take, map}
use Rattle.wk_session.proofs.cache.types_of.Given as goal

abbrev pub invariant-loop-func : goal.invariant-loop-func
invariant-loop-func l = l.types.items ≡ map (λ f. f.ty) (take l.func-index l.funcs)
