-- What the main job gives: the edited module, the report and the status.
use Rattle.std.specs.Prelude.{◌≡◌, ℕ, ◌+◌, Bool, true, false, ◌&&◌, if◌then◌else◌, Option, Some, None, List, [], Result, Ok, Err}
use Rattle.std.specs.List.{list_all}
use Rattle.std.specs.Io.KnownBytes.{Appends}
use Rattle.wk_bytes.specs.declared.fault.ReadFault.{ReadFault}
use Rattle.wk_bytes.specs.Taken.{TakesFront}
use Rattle.wk_module.specs.declared.types.Parts.{Parts}
use Rattle.wk_body.specs.declared.types.Profile.{Profile}
use Rattle.wk_module.specs.Reading.{module_at}
use Rattle.wk_module.specs.Writing.{encoded}
use Rattle.wk_typing.specs.declared.fault.Verdict.{Verdict}
use Rattle.wk_typing.specs.declared.fault.Verdict.TheVariants.{Valid, Invalid}
use Rattle.wk_check.specs.Verdict.{module_verdict}
use Rattle.wk_session.specs.declared.edit.Edit.{Edit}
use Rattle.wk_session.specs.declared.edit.Work.{Work}
use Rattle.wk_session.specs.declared.edit.EditFault.{EditFault}
use Rattle.wk_session.specs.Runs.{replies_of, after}
use Rattle.wk_edit.specs.declared.fault.ScriptFault.{ScriptFault}
use Rattle.wk_edit.specs.declared.fault.Status.{Status}
use Rattle.wk_edit.specs.declared.fault.Status.TheVariants.{Accepted, Refused, Malformed, BadScript}
use Rattle.wk_edit.specs.declared.fault.RunFault.{RunFault}
use Rattle.wk_edit.specs.declared.fault.RunFault.TheVariants.{Out, Report, Memory}
use Rattle.wk_edit.specs.Script.{script_of}
use Rattle.wk_check.specs.VerdictLines.{malformed_text}
use Rattle.wk_edit.specs.ReportText.{script_text, report_text}

pub record Outcome : Type 0 where
  -- the edited module, where a module and a script were read
  pub edited : Option Parts
  pub report : List ℕ
  pub status : Status

-- the written form of the module, if there is one
abbrev pub bytes_of : Option Parts → List ℕ
bytes_of None = []
bytes_of (Some m) = encoded m

-- what is written of the module
abbrev pub out_of : Outcome → List ℕ
out_of o = bytes_of o.edited

-- ---- of a module that cannot be read, of a script that cannot be read, of a run

abbrev pub malformed_outcome : ReadFault → Outcome
malformed_outcome fault = record { edited = None; report = malformed_text fault; status = Malformed }

abbrev pub script_outcome : ScriptFault → Outcome
script_outcome fault = record { edited = None; report = script_text fault; status = BadScript }

abbrev pub is_accepted : Result Work EditFault → Bool
is_accepted (Ok work) = true
is_accepted (Err fault) = false

abbrev pub is_valid : Verdict → Bool
is_valid Valid = true
is_valid (Invalid fault) = false

-- whether all edits were accepted and the module is valid
abbrev pub run_status : List (Result Work EditFault) → Verdict → Status
run_status replies verdict = if list_all is_accepted replies && is_valid verdict then Accepted else Refused

-- The module after the edits, their replies, and the verdict, with no edit refused for want of memory. `keep` says whether each edit has to
-- leave a valid module.
abbrev pub run_outcome : Bool → Parts → List Edit → Outcome
run_outcome keep m edits =
    let n = after keep edits [] m in
    let replies = replies_of keep edits [] m in
    let verdict = module_verdict n in
    record { edited = Some n; report = report_text 1 replies verdict; status = run_status replies verdict }

-- ---- of bytes

abbrev pub outcome_on : Bool → Parts → Result (List Edit) ScriptFault → Outcome
outcome_on keep m (Ok edits) = run_outcome keep m edits
outcome_on keep m (Err fault) = script_outcome fault

abbrev pub outcome_by : Bool → Result Parts ReadFault → Result (List Edit) ScriptFault → Outcome
outcome_by keep (Ok m) script = outcome_on keep m script
outcome_by keep (Err fault) script = malformed_outcome fault

-- the module is read first, then the script
unfoldable pub outcome_of : Bool → Profile → List ℕ → List ℕ → Outcome
outcome_of keep profile input script = outcome_by keep (module_at profile input) (script_of script)

-- ---- statuses

-- the exit status of a run
abbrev pub status_code : Status → ℕ
status_code Accepted = 0
status_code Refused = 1
status_code Malformed = 2
status_code BadScript = 3

-- ---- what a run that gave up leaves

-- a run that wrote something, or all
abbrev pub OnRun : {A : Type 0} → Result A RunFault → Type 0 → Type 0
OnRun (Ok x) P = P
OnRun (Err Out) P = P
OnRun (Err Report) P = P
OnRun (Err Memory) P = Unit {0}

-- what the output of the module took
abbrev pub OutTakes : Option (List ℕ) → Option (List ℕ) → Outcome → Result Status RunFault → Type 0
OutTakes old new o (Ok status) = Appends old new (out_of o)
OutTakes old new o (Err Out) = TakesFront old new (out_of o)
OutTakes old new o (Err Report) = Appends old new (out_of o)
OutTakes old new o (Err Memory) = new ≡ old

-- what the output of the report took
abbrev pub ReportTakes : Option (List ℕ) → Option (List ℕ) → Outcome → Result Status RunFault → Type 0
ReportTakes old new o (Ok status) = Appends old new o.report
ReportTakes old new o (Err Out) = new ≡ old
ReportTakes old new o (Err Report) = TakesFront old new o.report
ReportTakes old new o (Err Memory) = new ≡ old

-- the failures of the output of the module: one more where it is the cause
abbrev pub out_failures : ℕ → Result Status RunFault → ℕ
out_failures failures (Ok status) = failures
out_failures failures (Err Out) = failures + 1
out_failures failures (Err Report) = failures
out_failures failures (Err Memory) = failures

-- the failures of the output of the report
abbrev pub report_failures : ℕ → Result Status RunFault → ℕ
report_failures failures (Ok status) = failures
report_failures failures (Err Out) = failures
report_failures failures (Err Report) = failures + 1
report_failures failures (Err Memory) = failures
