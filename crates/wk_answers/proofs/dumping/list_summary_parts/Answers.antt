use Rattle.std.proofs.Common.{◌∙◌}
use Rattle.wk_bytes.specs.TakenLaws.{on_err_known}
use Rattle.wk_list.specs.Listing.{listing}
use Rattle.wk_answers.proofs.DumpingSteps.{more_taken, no_bodies, some_taken}
use Rattle.wk_answers.proofs.dumping.list_summary_parts.Goals as goal

pub list_summary-requires-clause-part : goal.list_summary-requires-clause-part
list_summary-requires-clause-part g c = no_bodies c.args.parts.now c.loop-part.part-index _ c.loop-part-test.true c.requires.parts

pub returns-in_err-list_summary-clause-err : goal.returns-in_err-list_summary-clause-err
returns-in_err-list_summary-clause-err g c =
    on_err_known c.from_residual.result (
    some_taken (listing c.args.summary.now) c.args.parts.now c.loop-part.part-index _ _ _ _ _ c.loop-part-test.true c.loop-part.invariant.so_far
    c.in_err-list_summary.ensures.err)

pub loop-part-preserved : goal.loop-part-preserved
loop-part-preserved g c = record {
  so_far = more_taken (listing c.args.summary.now) c.args.parts.now c.loop-part.part-index _ _ _ _ _ c.loop-part-test.true c.loop-part.invariant.so_far
      c.in_ok-list_summary.ensures.ok;
  failures = c.in_ok-list_summary.ensures.failures ∙ c.loop-part.invariant.failures;
}
