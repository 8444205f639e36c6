use Rattle.std.proofs.Common.{List, ℕ, max, Result, sym, ap, subst, ◌∙◌}
use Rattle.std.proofs.lemmas.Result.{err_from_is_err_and}
use Rattle.wk_bytes.specs.declared.fault.ReadFault.{ReadFault}
use Rattle.wk_bytes.specs.Frames.{Section, sections_of}
use Rattle.wk_bytes.specs.Raw.{raw_view}
use Rattle.wk_body.specs.ReadsLaws.{fails_on}
use Rattle.wk_module.specs.ListReading.{Rise}
use Rattle.wk_module.specs.Reading.{sections_read, with_section}
use Rattle.wk_module.proofs.ListReading.{some_rise}
use Rattle.wk_module.proofs.SectionSteps.{next_item, broken_off, sections_next, sections_stop, sections_break}
use Rattle.wk_module.proofs.module_read.PartialModule.read_sections.Goals as goal

pub loop-section-init : goal.loop-section-init
loop-section-init c =
    let first = c.into_iter-section-iterator.ensures.into_iter_gives ∙ c.new-section-items.ensures.items in
    record {
      can = tt;
      ends = tt;
      left = ap (λ (is : List (Result Section ReadFault)). sections_read c.args.profile c.args.self.now is) first;
      rise = subst (λ (is : List (Result Section ReadFault)). (last : ℕ) × Rise last is) (sym first) (some_rise c.args.bytes.now);
    }

pub returns-in_err-section : goal.returns-in_err-section
returns-in_err-section c =
    let p = err_from_is_err_and c.from_residual.result c.from_residual.ensures.1 in
    let e = c.in_err-section.field-0.0 in
    let so = c.loop-section.invariant in
    let first = next_item c.in-Some.ensures.steps c.in_err-section.was in
    rw (p.1, p.2) (broken_off e first so.rise so.left
    (sections_break c.args.profile c.loop-section.self c.loop-section.section-iterator c.next.new.self e first))

pub returns-in_err-read_section : goal.returns-in_err-read_section
returns-in_err-read_section c =
    let p = err_from_is_err_and c.from_residual-in_err-read_section.result c.from_residual-in_err-read_section.ensures.1 in
    let e = c.in_err-read_section.field-0.0 in
    let s = raw_view c.in_ok-section.field-0 in
    let first = next_item c.in-Some.ensures.steps c.in_ok-section.was in
    let stop = sections_stop c.args.profile c.loop-section.self c.loop-section.section-iterator c.next.new.self s e first in
    let whole = sections_read c.args.profile c.args.self.now (sections_of c.args.bytes.now) in
    rw (p.1, p.2) (fails_on e e.kind (with_section c.args.profile c.loop-section.self s) whole
    (λ bad. sym c.loop-section.invariant.left ∙ stop bad) c.in_err-read_section.ensures)

pub loop-section-preserved : goal.loop-section-preserved
loop-section-preserved c =
    let so = c.loop-section.invariant in
    let s = raw_view c.in_ok-section.field-0 in
    let first = next_item c.in-Some.ensures.steps c.in_ok-section.was in
    let rise = subst (λ (is : List (Result Section ReadFault)). (last : ℕ) × Rise last is) first so.rise in
    record {
      can = tt;
      ends = tt;
      left = sym (sections_next c.args.profile c.loop-section.self c.loop-section.section-iterator c.next.new.self s c.read_section.new.self first
          c.in_ok-read_section.ensures) ∙ so.left;
      rise = (max rise.0 s.id, rise.1.1);
    }
