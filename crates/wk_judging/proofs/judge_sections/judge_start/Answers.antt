use Rattle.std.proofs.Common.{rules, Option, Err, sym, ap, ◌∙◌}
use Rattle.std.proofs.lemmas.Result.{err_from_is_err_and}
use Rattle.wk_bytes.specs.declared.fault.ReadFault.{ReadFault}
use Rattle.wk_bytes.specs.Raw.{raw_view}
use Rattle.wk_bytes.specs.LebLaws.{done}
use Rattle.wk_typing.specs.declared.fault.Fault.{Fault}
use Rattle.wk_judging.specs.Contexts.{spaces_in}
use Rattle.wk_check.specs.Items.{start_flaw}
use Rattle.wk_judging.proofs.JudgedSteps.{stands_fails, start_fails, start_goes_past, start_is_read, start_after, start_told}
use Rattle.wk_judging.proofs.judge_sections.judge_start.Goals as goal

pub returns-in_err-index : goal.returns-in_err-index
returns-in_err-index c =
    let p = err_from_is_err_and c.from_residual.result c.from_residual.ensures.1 in
    let e = c.in_err-index.field-0.0 in
    let s = raw_view c.args.section.now in
    rw (p.1, p.2) (stands_fails _ _ _ _ _ c.in_err-index.ensures.stands.stands
    (start_fails c.args.context.now c.args.before s c.cursor-cursor.result c.cursor-cursor.ensures e c.in_err-index.ensures.exact.0))

pub returns-in_err-at_end : goal.returns-in_err-at_end
returns-in_err-at_end c =
    let p = err_from_is_err_and c.from_residual-in_err-at_end.result c.from_residual-in_err-at_end.ensures.1 in
    let s = raw_view c.args.section.now in
    let read = c.in_ok-index.ensures.exact in
    rw (p.1, p.2, c.in_err-at_end.ensures.0)
    (start_goes_past c.args.context.now c.args.before s c.cursor-cursor.result c.cursor-cursor.ensures c.in_ok-index.index c.u32.new.self read.0 read.1
    c.in_err-at_end.ensures.1 ∙ ap (λ (e : ReadFault). Err e) (sym c.in_err-at_end.ensures.0))

pub returns-then-is_some : goal.returns-then-is_some
returns-then-is_some c =
    let x = c.in_ok-index.index in
    start_is_read c.args.context.now c.args.before (raw_view c.args.section.now) c.cursor-cursor.result c.cursor-cursor.ensures x c.u32.new.self.rest
    c.in_ok-index.ensures.exact.0 c.in_ok-at_end.ensures
    ∙ ap (λ (o : Option Fault). done o) (start_after c.args.before (start_flaw (spaces_in c.args.context.now) x) c.if-is_some.ensures)

pub returns : goal.returns
returns c =
    let x = c.in_ok-index.index in
    start_is_read c.args.context.now c.args.before (raw_view c.args.section.now) c.cursor-cursor.result c.cursor-cursor.ensures x c.u32.new.self.rest
    c.in_ok-index.ensures.exact.0 c.in_ok-at_end.ensures
    ∙ ap (λ (o : Option Fault). done o)
    (start_told c.args.before (start_flaw (spaces_in c.args.context.now) x) c.flaw_of_start.result c.map.result c.if-is_some.ensures
    c.flaw_of_start.ensures c.map.ensures.cases (λ v f k. search rules))
