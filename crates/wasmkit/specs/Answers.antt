-- What each command makes of the files that it reads, where memory is not refused.
use Rattle.std.specs.Prelude.{◌≡◌, ◌||◌, ◌==◌, ℕ, max, nat_lt, Bool, true, false, if◌then◌else◌, Option, Some, None, List, [], ◌++◌, flat_map, codes, Result, Ok, Err}
use Rattle.std.specs.List.{list_any}
use Rattle.hex.specs.Hex.{encode_lower}
use Rattle.wk_bytes.specs.declared.fault.ReadFault.{ReadFault}
use Rattle.wk_bytes.specs.Frames.{Section, sections_of}
use Rattle.wk_body.specs.declared.types.Profile.{Profile}
use Rattle.wk_module.specs.declared.types.Parts.{Parts}
use Rattle.wk_module.specs.Reading.{module_at}
use Rattle.wk_module.specs.Shape.{settle}
use Rattle.wk_module.specs.Writing.{encoded}
use Rattle.wk_list.specs.declared.listing.Part.{Part}
use Rattle.wk_list.specs.Listing as listings
use Rattle.wk_list.specs.Text.{begins_hex}
use Rattle.wk_strip.specs.Stripped.{with_kept}
use Rattle.wk_edit.specs.declared.fault.Status.{Status}
use Rattle.wk_edit.specs.declared.fault.Status.TheVariants.{Accepted, Refused, Malformed, BadScript}
use Rattle.wk_edit.specs.Outcome.{Outcome, outcome_of, out_of, status_code}
use Rattle.wk_check.specs.VerdictLines.{malformed_text}
use Rattle.wk_answers.specs.Listing.{is_fault, listing}
use Rattle.wk_answers.specs.Explaining.{Explains}
use Rattle.wk_answers.specs.Validation.{printed, status_of}
use Rattle.wk_command_line.specs.declared.command.EachCommand.{EachCommand}
use Rattle.wk_command_line.specs.declared.command.EditCommand.{EditCommand}
use Rattle.wk_command_line.specs.declared.command.ObjdumpCommand.{ObjdumpCommand}
use Rattle.wk_command_line.specs.declared.command.StripCommand.{StripCommand}
use Rattle.wasmkit.specs.Faults.{memory_text, unread_text}

pub record Answer : Type 0 where
  -- the exit status
  pub status : ℕ
  -- the bytes of OUT, where it is made
  pub saved : Option (List ℕ)
  -- what standard output gets
  pub text : List ℕ
  -- whether that goes out while the rest of it is worked out
  pub is_early : Bool

-- a text alone
abbrev pub telling : ℕ → List ℕ → Answer
telling status text = record { status = status; saved = None; text = text; is_early = false }

-- the bytes of OUT by how the run ended: there are none where the module or the script is wrong
abbrev pub saved_of : Status → List ℕ → Option (List ℕ)
saved_of Accepted bytes = Some bytes
saved_of Refused bytes = Some bytes
saved_of Malformed bytes = None
saved_of BadScript bytes = None

-- a status, the bytes of a module and a report are those of the outcome
pub record AreOf (o : Outcome) (status : Status) (written report : List ℕ) : Type 0 where
  pub status_is : status ≡ o.status
  pub written_is : written ≡ out_of o
  pub report_is : report ≡ o.report

abbrev pub answer_of : Outcome → Answer
answer_of o = record { status = status_code o.status; saved = saved_of o.status (out_of o); text = o.report; is_early = false }

-- `edit`: the edited module, and the report
abbrev pub edited : EditCommand → List ℕ → List ℕ → Answer
edited c input script = answer_of (outcome_of c.keep_valid c.profile input script)

-- the listings of these parts, one behind the other
abbrev pub listed : List Part → Parts → Answer
listed these m = record { status = 0; saved = None; text = flat_map (listings.listing m) these; is_early = true }

-- the answer of what a reading gives: for no module the line of its first fault
abbrev pub on_module : (Parts → Answer) → Result Parts ReadFault → Answer
on_module answer (Ok m) = answer m
on_module answer (Err fault) = telling 2 (malformed_text fault)

-- `objdump`
abbrev pub dumped : ObjdumpCommand → List ℕ → Answer
dumped c input = on_module (listed c.parts.items) (module_at c.profile input)

-- `sections`: a line for each frame, and one for their fault
abbrev pub sections_status : List (Result Section ReadFault) → ℕ
sections_status found = if list_any is_fault found then 2 else 0

abbrev pub framed : List ℕ → Answer
framed input = telling (sections_status (sections_of input)) (listing (sections_of input))

-- `strip`: the written form of the module without customs, or with those of the name, and no text
abbrev pub bare : Option (List ℕ) → Parts → Answer
bare keep m = record { status = 0; saved = Some (encoded (settle (with_kept keep m))); text = []; is_early = false }

abbrev pub stripped : StripCommand → List ℕ → Answer
stripped c input = on_module (bare c.keep) (module_at c.profile input)

-- What `validate` prints of bytes: its line; or, with `--explain`, that line and where in the bytes the fault is.
abbrev pub IsPrinted : Bool → Profile → List ℕ → List ℕ → Type 0
IsPrinted false profile input text = text ≡ printed (module_at profile input)
IsPrinted true profile input text = Explains profile input text (status_of (module_at profile input))

-- ---- `validate --each`

-- a control character of ASCII
abbrev pub is_control : ℕ → Bool
is_control b = nat_lt b 0x20 || (b == 0x7F)

-- the name of a file in front of its line: as it stands; or as listings write names, where it has a control character or begins as those do
abbrev pub shown : List ℕ → List ℕ
shown name = if list_any is_control name || begins_hex name then codes "x:" ++ encode_lower name else name

-- what standard output gets of files, what standard error gets, and the status
pub record Judged : Type 0 where
  pub lines : List ℕ
  pub told : List ℕ
  pub status : ℕ

-- .. of no file, of two files or more by those in front and those behind them
abbrev pub nothing_judged : Judged
nothing_judged = record { lines = []; told = []; status = 0 }

abbrev pub both_judged : Judged → Judged → Judged
both_judged front behind = record {
  lines = front.lines ++ behind.lines;
  told = front.told ++ behind.told;
  status = max front.status behind.status;
}

-- the name of a file, and what `validate` prints of its bytes
abbrev pub named_line : List ℕ → List ℕ → List ℕ
named_line name text = shown name ++ (codes ": " ++ text)

-- a file that was read, of which that is printed
abbrev pub judged_as : EachCommand → List ℕ → List ℕ → List ℕ → Judged
judged_as c name input text = record { lines = named_line name text; told = []; status = status_of (module_at c.profile input) }

-- a file that was not, and one at which memory was refused
abbrev pub unread : List ℕ → Judged
unread name = record { lines = []; told = unread_text name; status = 4 }

abbrev pub exhausted : Judged
exhausted = record { lines = []; told = memory_text; status = 5 }
