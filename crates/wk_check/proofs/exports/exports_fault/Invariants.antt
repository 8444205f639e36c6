use Rattle.wk_check.specs.Spaces.{spaces_of}
use Rattle.wk_check.proofs.ExportNames.{InExports}
use Rattle.wk_check.proofs.exports.exports_fault.Given as goal

abbrev pub invariant-loop-index : goal.invariant-loop-index
invariant-loop-index l = InExports (spaces_of l.whole) l.exports l.index l.names.keys
