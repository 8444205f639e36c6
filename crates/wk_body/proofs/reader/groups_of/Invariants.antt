use Rattle.std.proofs.Common.{◌-◌}
use Rattle.wk_body.specs.Reading.{groups_at}
use Rattle.wk_body.proofs.GroupLoop.{InGroups}
use Rattle.wk_body.proofs.reader.groups_of.Given as goal

abbrev pub invariant-loop : goal.invariant-loop
invariant-loop l = InGroups l.groups.items (l.count - l.counter) l.declared l.fn.cursor l.cursor (groups_at l.count 0 l.fn.cursor.end l.fn.cursor.rest)
