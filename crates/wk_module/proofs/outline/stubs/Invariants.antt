use Rattle.std.proofs.Common.{◌≡◌, map, take}
use Rattle.wk_module.specs.OutlineReading.{stub_of}
use Rattle.wk_module.proofs.outline.stubs.Given as goal

abbrev pub invariant-loop-ty : goal.invariant-loop-ty
invariant-loop-ty l = l.funcs.items ≡ map stub_of (take l.ty-index l.indices)
