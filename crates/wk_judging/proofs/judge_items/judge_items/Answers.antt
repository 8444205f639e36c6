use Rattle.std.proofs.Common.{◌≡◌, Some, ap, sym, ◌∙◌}
use Rattle.std.proofs.lemmas.Result.{err_from_is_err_and}
use Rattle.wk_bytes.specs.Raw.{raw_view}
use Rattle.wk_body.specs.ReadsLaws.{fails_on}
use Rattle.wk_module.specs.Formats.{made_at}
use Rattle.wk_module.specs.Reading.{section_end}
use Rattle.wk_typing.specs.declared.fault.Fault.{Fault}
use Rattle.wk_judging.specs.Contexts.{next_judged, items_at_once}
use Rattle.wk_judging.proofs.JudgedItems.{by_flaw}
use Rattle.wk_judging.proofs.JudgedSteps.{stands_fails}
use Rattle.wk_judging.proofs.MadeReading.{fault_of_size, no_count, starts, judges_next, stops_next, ends_in, goes_past}
use Rattle.wk_judging.proofs.judge_items.judge_items.Goals as goal
use Rattle.wk_judging.proofs.judge_items.judge_items.Goals.{in-Some, in_default}

pub returns-in_err-count : goal.returns-in_err-count
returns-in_err-count g c =
    let p = err_from_is_err_and c.from_residual.result c.from_residual.ensures.1 in
    let s = raw_view c.args.section.now in
    rw (p.1, p.2) (stands_fails _ _ _ _ _ c.in_err-count.ensures.stands.stands
    (no_count (g.K.ItemKind.read_at c.args.profile) (g.K.ItemKind.wrong c.args.profile) g.K.ItemKind.add s.id (section_end s) s.contents
    c.args.state.now c.args.before c.cursor-cursor.result c.in_err-count.field-0.0 c.cursor-cursor.ensures c.in_err-count.ensures.exact.0))

pub loop-index-init : goal.loop-index-init
loop-index-init g c =
    let s = raw_view c.args.section.now in
    starts (g.K.ItemKind.read_at c.args.profile) (g.K.ItemKind.wrong c.args.profile) g.K.ItemKind.add s.id (section_end s) s.contents
    c.args.state.now c.args.before c.cursor-cursor.result c.u32.new.self c.in_ok-count.count c.cursor-cursor.ensures
    c.in_ok-count.ensures.exact.0 c.in_ok-count.ensures.exact.1

pub returns-in_err-flaw : goal.returns-in_err-flaw
returns-in_err-flaw g c =
    let p = err_from_is_err_and c.from_residual-in_err-flaw.result c.from_residual-in_err-flaw.ensures.1 in
    let e = c.in_err-flaw.field-0.0 in
    let read = g.K.ItemKind.read_at c.args.profile in
    let wrong = g.K.ItemKind.wrong c.args.profile in
    let add = g.K.ItemKind.add in
    let s = raw_view c.args.section.now in
    let l = c.loop-index in
    rw (p.1, p.2) (fails_on e e.kind (made_at (next_judged wrong add c.is_none.result l.state) read l.cursor.end l.cursor.rest)
    (items_at_once read wrong add c.args.state.now c.args.before s)
    (stops_next read wrong add s.id (section_end s) s.contents c.args.state.now c.args.before c.in_ok-count.count l.index l.cursor l.state l.fault
    l.invariant c.is_none.result e c.loop-index-test.true) c.in_err-flaw.ensures)

pub loop-index-preserved : goal.loop-index-preserved
loop-index-preserved g c =
    let read = g.K.ItemKind.read_at c.args.profile in
    let wrong = g.K.ItemKind.wrong c.args.profile in
    let add = g.K.ItemKind.add in
    let s = raw_view c.args.section.now in
    let l = c.loop-index in
    let first_is : c.match-branch-3.fault ≡ by_flaw l.fault s.id l.index c.in_ok-flaw.field-0 = elim c.match-branch-3.branch [
      | in-Some w ↦ w.fault-is ∙ ap (λ (f : Fault). Some f) w.at.ensures ∙ sym (ap (by_flaw l.fault s.id l.index) w.in-Some.is)
      | in_default w ↦ w.fault-is ∙ sym (ap (by_flaw l.fault s.id l.index) w.in_default.is)
    ] in
    judges_next read wrong add s.id (section_end s) s.contents c.args.state.now c.args.before c.in_ok-count.count l.index l.cursor l.state l.fault
    l.invariant c.judge_next.new.cursor c.is_none.result (c.judge_next.new.state, c.in_ok-flaw.field-0) c.match-branch-3.fault
    c.loop-index-test.true c.is_none.ensures c.in_ok-flaw.ensures.0 c.in_ok-flaw.ensures.1 first_is

pub returns-in_err-at_end : goal.returns-in_err-at_end
returns-in_err-at_end g c =
    let p = err_from_is_err_and c.from_residual-in_err-at_end.result c.from_residual-in_err-at_end.ensures.1 in
    let e = c.in_err-at_end.field-0.0 in
    let read = g.K.ItemKind.read_at c.args.profile in
    let wrong = g.K.ItemKind.wrong c.args.profile in
    let add = g.K.ItemKind.add in
    let s = raw_view c.args.section.now in
    let l = c.loop-index in
    rw (p.1, p.2) (fault_of_size e l.cursor.end l.cursor.rest (items_at_once read wrong add c.args.state.now c.args.before s) c.in_err-at_end.ensures.0
    (goes_past read wrong add s.id (section_end s) s.contents c.args.state.now c.args.before c.in_ok-count.count l.index l.cursor l.state l.fault
    l.invariant c.loop-index-test.false c.in_err-at_end.ensures.1))

pub returns : goal.returns
returns g c =
    let s = raw_view c.args.section.now in
    let l = c.loop-index in
    ends_in (g.K.ItemKind.read_at c.args.profile) (g.K.ItemKind.wrong c.args.profile) g.K.ItemKind.add s.id (section_end s) s.contents
    c.args.state.now c.args.before c.in_ok-count.count l.index l.cursor l.state l.fault
    l.invariant c.loop-index-test.false c.in_ok-at_end.ensures
