use Rattle.std.proofs.Common.{[], ap, ◌∙◌}
use Rattle.wk_session.specs.Runs.{after, replies_of}
use Rattle.wk_edit.specs.Outcome.{run_status}
use Rattle.wk_edit.specs.ReportText.{report_text}
use Rattle.wk_edit.proofs.OutcomeLemmas.{spelled_once}
use Rattle.wk_edit.proofs.prepare.prepare_draft.Goals as goal

pub returns-in-Ok-clause-ok : goal.returns-in-Ok-clause-ok
returns-in-Ok-clause-ok c = λ keep m edits is.
    let qs = replies_of keep edits [] m in
    record {
      made = is.edited;
      spelled = spelled_once c.written_form_of_module.ensures.spells c.one_module.ensures.one (after keep edits [] m) is.shaped is.fits;
      report = c.in-Ok.ensures qs (rw (← c.deref-2.ensures.value) at is.replies) ∙ ap (report_text 1 qs) is.verdict;
      status = c.status_of-status.ensures qs (rw (← c.deref.ensures.value) at is.replies) ∙ ap (run_status qs) is.verdict;
    }
