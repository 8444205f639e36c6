use Rattle.std.proofs.Common.{◌∙◌, arith}
use Rattle.wk_place.specs.Seeking.{unknown_from}
use Rattle.wk_place.proofs.EntrySteps.{goes_on}
use Rattle.wk_place.proofs.entries.first_unknown.Goals as goal

pub loop-entry-preserved : goal.loop-entry-preserved
loop-entry-preserved c =
    let here = c.loop-entry in
    let read = c.in_ok-func.ensures.exact in
    record {
      end = read.1 ∙ here.invariant.end;
      so_far = goes_on c.args.known c.args.count here.entry here.funcs.end _ c.in_ok-func.func here.funcs.rest _
          (unknown_from c.args.known 0 c.args.count c.args.funcs.now.end c.args.funcs.now.rest) c.loop-entry-test.true
          read.0 read.1 (omega (arith, c.from.ensures, c.if-from-known.false)) here.invariant.so_far;
    }
