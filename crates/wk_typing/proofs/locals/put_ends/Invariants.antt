use Rattle.wk_typing.proofs.LocalEnds.{AreEnding}
use Rattle.wk_typing.proofs.locals.put_ends.Given as goal

abbrev pub invariant-loop-group : goal.invariant-loop-group
invariant-loop-group l = AreEnding l.groups l.group-index l.total l.ends.items
