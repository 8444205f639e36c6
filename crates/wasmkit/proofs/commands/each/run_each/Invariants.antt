use Rattle.std.proofs.Common.{◌≡◌, take}
use Rattle.wk_command_line.specs.CommandLine.{files_of}
use Rattle.wasmkit.specs.Runs.{between}
use Rattle.wasmkit.proofs.EachSteps.{SoFar}
use Rattle.wasmkit.proofs.commands.each.run_each.Given as goal

abbrev pub invariant-loop-name : goal.invariant-loop-name
invariant-loop-name g l = record {
  so_far : SoFar l.fn.command (take l.name-index (files_of l.fn.command)) (g.S.Store.asked l.fn.store) (g.S.Store.asked l.store) l.highest
      (between g.X.Out.taken g.X.Out.failed l.fn.out l.out) (between g.Y.Out.taken g.Y.Out.failed l.fn.err l.err);
  start : l.start ≡ g.Y.Out.failed l.fn.err;
  failures : g.X.Out.failed l.out ≡ g.X.Out.failed l.fn.out;
}
