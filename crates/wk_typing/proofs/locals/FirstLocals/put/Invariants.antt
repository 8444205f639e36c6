use Rattle.std.proofs.Common.{◌≡◌}
use Rattle.wk_typing.specs.Locals.{AreFirst}
use Rattle.wk_typing.proofs.locals.FirstLocals.put.Given as goal

abbrev pub invariant-loop-group : goal.invariant-loop-group
invariant-loop-group l = (l.written ≡ l.group-index) × AreFirst l.params l.groups l.group-index l.self
