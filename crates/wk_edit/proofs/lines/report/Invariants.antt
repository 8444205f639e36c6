use Rattle.std.proofs.Common.{◌≡◌, ◌+◌, ◌++◌, List, Result, drop, string_bytes}
use Rattle.wk_session.specs.declared.edit.EditFault.{EditFault}
use Rattle.wk_session.specs.declared.edit.Work.{Work}
use Rattle.wk_draft.specs.Runs.{AreAlike}
use Rattle.wk_edit.specs.ReportText.{report_text}
use Rattle.wk_edit.proofs.lines.report.Given as goal

abbrev pub invariant-loop-reply : goal.invariant-loop-reply
invariant-loop-reply g l = record {
  said : (told : List (Result Work EditFault)) → AreAlike l.replies told
      → string_bytes l.text ++ report_text (l.number + 1) (drop l.reply-index told) l.verdict ≡ report_text 1 told l.verdict;
  count : l.number ≡ l.reply-index;
}
