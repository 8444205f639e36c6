use Rattle.std.proofs.Common.{sym, ◌∙◌}
use Rattle.std.proofs.lemmas.Result.{err_from_is_err_and}
use Rattle.wk_bytes.specs.Raw.{raw_view}
use Rattle.wk_body.specs.ReadsLaws.{fails_on}
use Rattle.wk_module.specs.Reading.{section_end}
use Rattle.wk_place.specs.Seeking.{sized_at, broken_at}
use Rattle.wk_place.proofs.BrokenCodes.{fails, goes_on}
use Rattle.wk_place.proofs.faults.first_broken.Goals as goal

pub returns-in_err-code : goal.returns-in_err-code
returns-in_err-code c =
    let p = err_from_is_err_and c.from_residual-in_err-code.result c.from_residual-in_err-code.ensures.1 in
    let e = c.in_err-code.field-0.0 in
    let here = c.loop-item in
    let s = raw_view c.args.section.now in
    let whole = broken_at c.args.profile (section_end s) s.contents in
    rw (p.1, p.2) (fails_on e e.kind (sized_at here.cursor.end here.cursor.rest) whole
    (λ bad. fails c.args.profile c.in_ok-count.count here.item here.cursor.end here.cursor.rest e whole c.loop-item-test.true bad here.invariant.so_far)
    c.in_err-code.ensures)

pub loop-item-preserved : goal.loop-item-preserved
loop-item-preserved c =
    let here = c.loop-item in
    let s = raw_view c.args.section.now in
    let read = c.in_ok-code.ensures in
    let whole = broken_at c.args.profile (section_end s) s.contents in
    record {
      end = read.1 ∙ here.invariant.end;
      so_far =
          goes_on c.args.profile c.in_ok-count.count here.item here.cursor.end c.take_code.new.cursor.end here.cursor.rest c.take_code.new.cursor.rest
          c.in_ok-code.code whole c.loop-item-test.true read.0 read.1 (sym c.in_ok-fault.ensures ∙ c.in_default.is) here.invariant.so_far;
    }
