use Rattle.std.proofs.Common.{◌≡◌, take}
use Rattle.wk_typing.specs.Own.{pushed}
use Rattle.wk_typing.specs.Levels.{with_top}
use Rattle.wk_typing.proofs.operands.push_types.Given as goal

abbrev pub invariant-loop-ty : goal.invariant-loop-ty
invariant-loop-ty l = l.s ≡ with_top (pushed (take l.ty-index l.types) l.initial.s.inner.own) l.initial.s
