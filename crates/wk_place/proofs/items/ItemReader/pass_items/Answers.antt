use Rattle.std.proofs.Common.{◌∙◌}
use Rattle.std.proofs.lemmas.Result.{err_from_is_err_and}
use Rattle.wk_body.specs.ReadsLaws.{fails_on}
use Rattle.wk_place.specs.Seeking.{all_passed, item_passed}
use Rattle.wk_place.proofs.Passing.{passes, stops, ends}
use Rattle.wk_place.proofs.items.ItemReader.pass_items.Goals as goal

pub returns-in_err-pass_item : goal.returns-in_err-pass_item
returns-in_err-pass_item c =
    let p = err_from_is_err_and c.from_residual.result c.from_residual.ensures.1 in
    let e = c.in_err-pass_item.field-0.0 in
    let read = item_passed c.args.self.now.profile c.args.section in
    let here = c.loop in
    let whole = all_passed read c.args.count c.args.cursor.now.end c.args.cursor.now.rest in
    let failed = c.in_err-pass_item.ensures.read in
    rw (p.1, p.2) (fails_on e e.kind (read here.cursor.end here.cursor.rest) whole
    (λ bad. stops read c.args.count here.counter here.cursor.end here.cursor.rest e whole c.loop-test.true bad here.invariant.reads)
    (rw here.invariant.profile at failed))

pub loop-preserved : goal.loop-preserved
loop-preserved c =
    let read = item_passed c.args.self.now.profile c.args.section in
    let here = c.loop in
    let done = c.in_ok-pass_item.ensures.read in
    let taken = rw here.invariant.profile at done in
    record {
      profile = c.in_ok-pass_item.ensures.profile ∙ here.invariant.profile;
      end = taken.1 ∙ here.invariant.end;
      reads = passes read c.args.count here.counter here.cursor.end c.pass_item.new.cursor.end here.cursor.rest c.pass_item.new.cursor.rest tt
          (all_passed read c.args.count c.args.cursor.now.end c.args.cursor.now.rest) c.loop-test.true taken.0 taken.1 here.invariant.reads;
    }

pub returns : goal.returns
returns c =
    let read = item_passed c.args.self.now.profile c.args.section in
    let here = c.loop in (
      ends read c.args.count here.counter here.cursor.end here.cursor.rest
          (all_passed read c.args.count c.args.cursor.now.end c.args.cursor.now.rest) c.loop-test.false here.invariant.reads,
      here.invariant.end,
    )
