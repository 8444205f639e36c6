use Rattle.std.proofs.Common.{◌≡◌, ◌++◌, drop}
use Rattle.wk_module.specs.Writing.{customs_at}
use Rattle.wk_module.proofs.module_write.put_customs_at.Given as goal

abbrev pub invariant-loop-custom : goal.invariant-loop-custom
invariant-loop-custom l =
    l.bytes.items ++ customs_at l.place (drop l.custom-index l.customs) ≡ l.fn.bytes.items ++ customs_at l.place l.fn.customs
