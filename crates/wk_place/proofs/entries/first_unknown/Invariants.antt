use Rattle.std.proofs.Common.{◌≡◌, ◌-◌}
use Rattle.wk_place.specs.Seeking.{unknown_from}
use Rattle.wk_place.proofs.entries.first_unknown.Given as goal

abbrev pub invariant-loop-entry : goal.invariant-loop-entry
invariant-loop-entry l = record {
  end : l.funcs.end ≡ l.fn.funcs.end;
  so_far : unknown_from l.known l.entry (l.count - l.entry) l.funcs.end l.funcs.rest ≡ unknown_from l.known 0 l.count l.fn.funcs.end l.fn.funcs.rest;
}
