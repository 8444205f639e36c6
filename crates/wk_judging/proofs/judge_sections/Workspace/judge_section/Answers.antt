use Rattle.std.proofs.Common.{◌≤◌, ◌<◌, ◌⊎◌, inl, inr, arith}
use Rattle.std.proofs.lemmas.Result.{err_from_is_err_and}
use Rattle.wk_bytes.specs.Raw.{raw_view}
use Rattle.wk_judging.proofs.JudgedSteps.{stands_fails, omitted_from, of_none, custom_fails, custom_is_read}
use Rattle.wk_judging.proofs.judge_sections.Workspace.judge_section.Goals as goal
use Rattle.wk_judging.proofs.judge_sections.Workspace.judge_section.Goals.{in_default-via-then-section-lt1}
use Rattle.wk_judging.proofs.judge_sections.Workspace.judge_section.Goals.{in_default-via-else-section-lt1+else-section-lt6+else-section-lt12}

pub returns-in_err-_name-in_default : goal.returns-in_err-_name-in_default
returns-in_err-_name-in_default c = λ l same none.
    let p = err_from_is_err_and c.from_residual.result c.from_residual.ensures.1 in
    let e = c.in_err-_name-in_default.field-0.0 in
    let s = raw_view c.args.section.now in
    let out : (s.id < 1) ⊎ (12 ≤ s.id) = elim c.in_default.branch [
      | in_default-via-then-section-lt1 w ↦ inl (omega (arith, w))
      | in_default-via-else-section-lt1+else-section-lt6+else-section-lt12 w ↦ inr (omega (arith, w))
    ] in
    rw (p.1, p.2) (stands_fails _ _ _ _ _ c.in_err-_name-in_default.ensures.stands.stands
    (custom_fails c.args.profile l c.args.before s c.cursor-cursor.result c.cursor-cursor.ensures (of_none s.id out) e
    c.in_err-_name-in_default.ensures.exact.0))

pub returns-in-1-to-5 : goal.returns-in-1-to-5
returns-in-1-to-5 c = λ l same none.
    c.judge_low_section.ensures l same
    (omitted_from c.args.section.now.id l (omega (arith, c.in-1-to-5)) (omega (arith, c.in-1-to-5)) none)

pub returns-in-6-to-11 : goal.returns-in-6-to-11
returns-in-6-to-11 c = λ l same none.
    c.judge_high_section.ensures l same
    (omitted_from c.args.section.now.id l (omega (arith, c.in-6-to-11)) (omega (arith, c.in-6-to-11)) none)

pub returns-in_ok-_name-in_default : goal.returns-in_ok-_name-in_default
returns-in_ok-_name-in_default c = λ l same none.
    let s = raw_view c.args.section.now in
    let out : (s.id < 1) ⊎ (12 ≤ s.id) = elim c.in_default.branch [
      | in_default-via-then-section-lt1 w ↦ inl (omega (arith, w))
      | in_default-via-else-section-lt1+else-section-lt6+else-section-lt12 w ↦ inr (omega (arith, w))
    ] in
    custom_is_read c.args.profile l c.args.before s c.cursor-cursor.result c.cursor-cursor.ensures (of_none s.id out) c.args.self.now.context _ same
    c.in_ok-_name-in_default.ensures.exact.0
