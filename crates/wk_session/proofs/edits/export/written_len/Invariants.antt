use Rattle.std.proofs.Common.{◌≡◌, length, take}
use Rattle.std.specs.List.{flat_map}
use Rattle.wk_module.specs.Items.{written_export}
use Rattle.wk_session.proofs.edits.export.written_len.Given as goal

abbrev pub invariant-loop-export : goal.invariant-loop-export
invariant-loop-export l = l.total ≡ length (flat_map written_export (take l.export-index l.exports))
