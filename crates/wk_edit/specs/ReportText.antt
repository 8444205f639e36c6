-- The texts of reports.
use Rattle.std.specs.Prelude.{ℕ, ◌+◌, List, [], ◌∷◌, ◌++◌, Result, Ok, Err, codes, decimal}
use Rattle.wk_typing.specs.declared.fault.Verdict.{Verdict}
use Rattle.wk_check.specs.VerdictLines.{verdict_line}
use Rattle.wk_session.specs.declared.edit.EditFault.{EditFault}
use Rattle.wk_session.specs.declared.edit.Work.{Work}
use Rattle.wk_session.specs.EditText.{edit_fault_text}
use Rattle.wk_edit.specs.declared.fault.ScriptFault.{ScriptFault}
use Rattle.wk_edit.specs.declared.fault.ScriptFault.TheVariants.{BadWord, NotAscii, Memory}

-- the number and the name, and the line
abbrev pub script_fault_text : ScriptFault → List ℕ
script_fault_text (BadWord line) = codes "S1 BadWord line " ++ decimal line
script_fault_text (NotAscii line) = codes "S2 NotAscii line " ++ decimal line
script_fault_text Memory = codes "S3 Memory"

-- ---- lines, each with its LF

-- the line of the edit with that number
abbrev pub reply_line : ℕ → Result Work EditFault → List ℕ
reply_line number (Ok work) = decimal number ++ codes " ok\n"
reply_line number (Err fault) = decimal number ++ (codes " refused " ++ (edit_fault_text fault ++ codes "\n"))

-- the report of a script that cannot be read
abbrev pub script_text : ScriptFault → List ℕ
script_text fault = codes "script " ++ (script_fault_text fault ++ codes "\n")

-- ---- the report of a run

-- a line for each reply, the first of which has that number, and the verdict's line
unfoldable pub report_text : ℕ → List (Result Work EditFault) → Verdict → List ℕ
report_text number [] verdict = verdict_line verdict
report_text number (reply ∷ replies) verdict = reply_line number reply ++ report_text (number + 1) replies verdict
