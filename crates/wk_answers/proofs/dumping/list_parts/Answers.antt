use Rattle.std.proofs.Common.{◌∙◌}
use Rattle.wk_bytes.specs.TakenLaws.{on_err_known}
use Rattle.wk_list.specs.Listing.{listing}
use Rattle.wk_answers.proofs.DumpingSteps.{more_taken, some_taken}
use Rattle.wk_answers.proofs.dumping.list_parts.Goals as goal

pub returns-in_err-list-clause-err : goal.returns-in_err-list-clause-err
returns-in_err-list-clause-err g c =
    on_err_known c.from_residual.result (
    some_taken (listing (g.S.Shape.seen c.args.shape.now)) c.args.parts.now c.loop-part.part-index _ _ _ _ _ c.loop-part-test.true
    c.loop-part.invariant.so_far c.in_err-list.ensures.err)

pub loop-part-preserved : goal.loop-part-preserved
loop-part-preserved g c = record {
  so_far = more_taken (listing (g.S.Shape.seen c.args.shape.now)) c.args.parts.now c.loop-part.part-index _ _ _ _ _ c.loop-part-test.true
      c.loop-part.invariant.so_far c.in_ok-list.ensures.ok;
  failures = c.in_ok-list.ensures.failures ∙ c.loop-part.invariant.failures;
}
