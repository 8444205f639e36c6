use Rattle.std.proofs.Common.{◌≡◌, ◌≤◌, ◌-◌, ◌++◌}
use Rattle.wk_module.specs.Listed.{listed}
use Rattle.wk_strip.specs.Written.{sections_from}
use Rattle.wk_strip.proofs.sections.append_sections.Given as goal

abbrev pub invariant-loop-id : goal.invariant-loop-id
invariant-loop-id l = record {
  least : l.first ≤ l.id;
  left : l.out.items ++ sections_from (listed l.lists) l.customs l.id (l.end - l.id)
      ≡ l.fn.out.items ++ sections_from (listed l.lists) l.customs l.first (l.end - l.first);
}
