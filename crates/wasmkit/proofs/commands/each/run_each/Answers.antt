use Rattle.std.proofs.Common.{◌∙◌, take}
use Rattle.wk_command_line.specs.CommandLine.{files_of}
use Rattle.wasmkit.proofs.EachSteps.{fault_more, files_more, files_split, line_lost, line_more, so_far_as}
use Rattle.wasmkit.proofs.commands.each.run_each.Goals as goal
use Rattle.wasmkit.proofs.commands.each.run_each.Goals.{in-Ok+in_ok-status-in-Ok, in-Err}

pub returns-in_err-status-in-Ok : goal.returns-in_err-status-in-Ok
returns-in_err-status-in-Ok g c =
    let so_far = c.loop-name.invariant.so_far in
    let e = c.in-Ok.ensures in (
      so_far.judged.told,
      line_lost c.args.command (take c.loop-name.name-index (files_of c.args.command)) _ _ _ _ _ _ _ _ _ _ so_far e.0 e.1 _ _ c.in-Ok.judged.status _ _ _ _
          (files_split c.args.command.files.items c.deref-name-items.result.now c.deref-name-items.ensures.value c.loop-name.name-index _ c.loop-name-test.true) e.2 e.3 (c.as_slice.ensures.value ∙ e.4) c.in_err-status-in-Ok.ensures
          c.from_residual.ensures.1,
      so_far.hears,
    )

pub loop-name-preserved : goal.loop-name-preserved
loop-name-preserved g c =
    let so_far = c.loop-name.invariant.so_far in
    let i = c.loop-name.name-index in
    let front = take i (files_of c.args.command) in
    let more = files_more c.args.command.files.items c.deref-name-items.result.now c.deref-name-items.ensures.value i _ c.loop-name-test.true in elim c.match-judge.branch [
      | in-Ok+in_ok-status-in-Ok w ↦ rw (c.max-highest.ensures, w.out-is, w.err-is, w.status-is) (record {
        so_far = so_far_as _ _ _ _ _ _ _ _ more (line_more c.args.command front _ _ _ _ _ _ _ _ _ _ so_far w.in-Ok.ensures.0 w.in-Ok.ensures.1 _ _ _ _ _ w.in-Ok.ensures.2 w.in-Ok.ensures.3 (w.as_slice.ensures.value ∙ w.in-Ok.ensures.4) w.in-Ok.ensures.5
            w.in_ok-status-in-Ok.ensures);
        start = c.loop-name.invariant.start;
        failures = w.in_ok-status-in-Ok.ensures.2.failed ∙ c.loop-name.invariant.failures;
      })
      | in-Err w ↦ rw (c.max-highest.ensures, w.out-is, w.err-is, w.status-is) (record {
        so_far = so_far_as _ _ _ _ _ _ _ _ more (fault_more c.args.command front _ _ _ _ _ _ _ _ _ _ _ _ _ w.in-Err.ensures.0 _ so_far w.in-Err.ensures.1 w.in-Err.ensures.2
            (rw c.loop-name.invariant.start at w.tell_after-status.ensures));
        start = c.loop-name.invariant.start;
        failures = c.loop-name.invariant.failures;
      })
    ]
