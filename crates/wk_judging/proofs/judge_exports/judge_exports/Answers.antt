use Rattle.std.proofs.Common.{◌≡◌, ◌++◌, ◌∷◌, [], Some, None, ap, sym, ◌∙◌}
use Rattle.std.proofs.lemmas.Result.{err_from_is_err_and}
use Rattle.wk_bytes.specs.Raw.{raw_view}
use Rattle.wk_body.specs.ReadsLaws.{fails_on}
use Rattle.wk_module.specs.InPlace.{export_view}
use Rattle.wk_module.specs.Items.{export_at}
use Rattle.wk_module.specs.Reading.{section_end}
use Rattle.wk_typing.specs.declared.fault.Fault.{Fault}
use Rattle.wk_judging.specs.Contexts.{add_export, exports_at_once, next_export_flaw}
use Rattle.wk_judging.proofs.JudgedItems.{by_flaw}
use Rattle.wk_judging.proofs.JudgedSteps.{stands_fails}
use Rattle.wk_judging.proofs.MadeReading.{fault_of_size, starts}
use Rattle.wk_judging.proofs.JudgedExports.{is_none, none_none, some_none, exports_uncounted, export_passes, export_judged, export_stops}
use Rattle.wk_judging.proofs.JudgedExports.{exports_end, exports_past}
use Rattle.wk_judging.proofs.judge_exports.judge_exports.Goals as goal
use Rattle.wk_judging.proofs.judge_exports.judge_exports.Goals.{in-Some, in_default}

pub returns-in_err-count : goal.returns-in_err-count
returns-in_err-count c =
    let p = err_from_is_err_and c.from_residual.result c.from_residual.ensures.1 in
    let s = raw_view c.args.section.now in
    rw (p.1, p.2) (stands_fails _ _ _ _ _ c.in_err-count.ensures.stands.stands
    (exports_uncounted (section_end s) s.contents c.args.context.now c.args.before c.cursor-cursor.result c.in_err-count.field-0.0
    c.cursor-cursor.ensures c.in_err-count.ensures.exact.0))

pub loop-index-init : goal.loop-index-init
loop-index-init c =
    let s = raw_view c.args.section.now in (
      [],
      λ none. c.new-names.ensures,
      starts export_at next_export_flaw add_export 7 (section_end s) s.contents (record { context = c.args.context.now; names = [] }) c.args.before
          c.cursor-cursor.result c.u32.new.self c.in_ok-count.count c.cursor-cursor.ensures c.in_ok-count.ensures.exact.0 c.in_ok-count.ensures.exact.1,
    )

pub returns-in_err-export : goal.returns-in_err-export
returns-in_err-export c =
    let p = err_from_is_err_and c.from_residual-in_err-export.result c.from_residual-in_err-export.ensures.1 in
    let e = c.in_err-export.field-0.0 in
    let s = raw_view c.args.section.now in
    rw (p.1, p.2) (fails_on e e.kind _ _
    (export_stops (section_end s) s.contents c.args.context.now c.args.before c.loop-index.invariant.2 e c.loop-index-test.true)
    c.in_err-export.ensures.exact)

pub loop-index-preserved-then-is_some : goal.loop-index-preserved-then-is_some
loop-index-preserved-then-is_some c =
    let s = raw_view c.args.section.now in
    let l = c.loop-index in
    let some = sym c.is_some.ensures ∙ c.if-is_some.true in (
      l.invariant.0 ++ c.in_ok-export.export.name.now ∷ [],
      λ none. absurd (none_none l.fault some none),
      export_passes (section_end s) s.contents c.args.context.now c.args.before l.invariant.2 c.read_export.new.cursor
          (export_view c.in_ok-export.export) some c.loop-index-test.true c.in_ok-export.ensures.exact.0 c.in_ok-export.ensures.exact.1,
    )

pub loop-index-preserved : goal.loop-index-preserved
loop-index-preserved c =
    let s = raw_view c.args.section.now in
    let l = c.loop-index in
    let none : l.fault ≡ None = is_none l.fault (sym c.is_some.ensures ∙ c.if-is_some.false) in
    let judged = c.in_ok-flaw.ensures l.invariant.0 (l.invariant.1 none) in
    let first_is : c.match-branch-4.fault ≡ by_flaw l.fault 7 l.index c.in_ok-flaw.field-0 = elim c.match-branch-4.branch [
      | in-Some w ↦ w.fault-is ∙ ap (λ (f : Fault). Some f) w.at.ensures ∙ sym (ap (by_flaw l.fault 7 l.index) w.in-Some.is)
      | in_default w ↦ w.fault-is ∙ sym (ap (by_flaw l.fault 7 l.index) w.in_default.is)
    ] in (
      l.invariant.0 ++ c.in_ok-export.export.name.now ∷ [],
      elim c.match-branch-4.branch [
        | in-Some w ↦ λ fine. absurd (some_none c.match-branch-4.fault w.at.result w.fault-is fine)
        | in_default w ↦ λ fine. judged.1 w.in_default.is
      ],
      export_judged (section_end s) s.contents c.args.context.now c.args.before l.invariant.2 c.read_export.new.cursor
          (export_view c.in_ok-export.export) c.in_ok-flaw.field-0 c.match-branch-4.fault none c.loop-index-test.true
          c.in_ok-export.ensures.exact.0 c.in_ok-export.ensures.exact.1 judged.0 first_is,
    )

pub returns-in_err-at_end : goal.returns-in_err-at_end
returns-in_err-at_end c =
    let p = err_from_is_err_and c.from_residual-in_err-at_end.result c.from_residual-in_err-at_end.ensures.1 in
    let e = c.in_err-at_end.field-0.0 in
    let s = raw_view c.args.section.now in
    let l = c.loop-index in
    rw (p.1, p.2) (fault_of_size e l.cursor.end l.cursor.rest (exports_at_once c.args.context.now c.args.before s) c.in_err-at_end.ensures.0
    (exports_past (section_end s) s.contents c.args.context.now c.args.before l.invariant.2 c.loop-index-test.false c.in_err-at_end.ensures.1))

pub returns : goal.returns
returns c =
    let s = raw_view c.args.section.now in
    exports_end (section_end s) s.contents c.args.context.now c.args.before c.loop-index.invariant.2 c.loop-index-test.false c.in_ok-at_end.ensures
