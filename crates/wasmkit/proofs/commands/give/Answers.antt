use Rattle.wasmkit.proofs.Steps.{ends, saved, not_saved}
use Rattle.wasmkit.proofs.commands.give.Goals as goal
use Rattle.wasmkit.proofs.commands.give.Goals.{in-Some+in_ok-save, in_default}

pub returns-in_err-save : goal.returns-in_err-save
returns-in_err-save g c =
    rw c.in-Some.is (not_saved c.args.name.now c.in-Some.bytes.now _ _ _ _ _ _ _ c.from_residual.ensures.1 c.in_err-save.ensures)

pub returns : goal.returns
returns g c = elim c.match-saved.branch [
  | in-Some+in_ok-save w ↦ rw (w.store-is, w.in-Some.is) (saved c.args.name.now w.in-Some.bytes.now _ _ _ _ _ _ w.in_ok-save.ensures (ends c.print.ensures))
  | in_default w ↦ rw (w.store-is, w.in_default.is) (ends c.print.ensures)
]
