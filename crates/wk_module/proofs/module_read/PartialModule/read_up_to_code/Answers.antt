use Rattle.std.proofs.lemmas.Result.{err_from_is_err_and}
use Rattle.wk_module.proofs.SectionSteps.{next_item, broken_off, lists_break, front_break}
use Rattle.wk_module.proofs.module_read.PartialModule.read_up_to_code.Goals as goal

pub returns-in_err-section : goal.returns-in_err-section
returns-in_err-section c =
    let p = err_from_is_err_and c.from_residual.result c.from_residual.ensures.1 in
    let e = c.in_err-section.field-0.0 in
    let so = c.loop-section.invariant in
    let first = next_item c.in-Some.ensures.steps c.in_err-section.was in
    rw (p.1, p.2) (record {
      exact = broken_off e first so.rise so.front (front_break c.args.profile c.loop-section.self.lists c.loop-section.left c.next.new.self e first);
      goes = broken_off e first so.rise so.reads (lists_break c.args.profile c.loop-section.self.lists c.loop-section.left c.next.new.self e first);
      underway = tt;
    })
