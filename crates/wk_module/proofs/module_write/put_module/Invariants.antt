use Rattle.std.proofs.Common.{◌≡◌, ◌++◌, drop}
use Rattle.std.specs.List.{flat_map}
use Rattle.wk_module.specs.Writing.{section_and_customs, ids, encoded}
use Rattle.wk_module.proofs.module_write.put_module.Given as goal

abbrev pub invariant-loop-id : goal.invariant-loop-id
invariant-loop-id l = l.bytes.items ++ flat_map (section_and_customs l.parts) (drop l.id ids) ≡ l.fn.bytes.items ++ encoded l.fn.parts
