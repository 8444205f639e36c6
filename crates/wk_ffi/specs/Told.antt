-- What calls have to tell, by what they are asked for; nothing where an argument is outside of what they take.
use Rattle.std.specs.Prelude.{ℕ, ◌==◌, ◌&&◌, if◌then◌else◌, Bool, Option, Some, None, List, [], Result, Ok, Err}
use Rattle.std.specs.List.{list_any}
use Rattle.wk_bytes.specs.declared.fault.ReadFault.{ReadFault}
use Rattle.wk_bytes.specs.Frames.{sections_of, Section}
use Rattle.wk_module.specs.declared.types.Parts.{Parts}
use Rattle.wk_module.specs.Reading.{module_at}
use Rattle.wk_module.specs.Shape.{settle}
use Rattle.wk_module.specs.Writing.{encoded}
use Rattle.wk_list.specs.declared.listing.Part.{Part}
use Rattle.wk_list.specs.Listing as lists
use Rattle.wk_strip.specs.Stripped.{with_kept}
use Rattle.wk_edit.specs.declared.fault.Status.{Status}
use Rattle.wk_edit.specs.declared.fault.Status.TheVariants as statuses
use Rattle.wk_edit.specs.Outcome.{Outcome, outcome_of, out_of}
use Rattle.wk_check.specs.VerdictLines.{malformed_text}
use Rattle.wk_answers.specs.Listing.{is_fault, listing}
use Rattle.wk_answers.specs.Validation.{printed, status_of}
use Rattle.wk_ffi.specs.declared.code.Code.{Code}
use Rattle.wk_ffi.specs.declared.code.Code.TheVariants.{Fine, Invalid, Malformed, BadScript, Refused, NoMemory, BadArgument, TooSmall}
use Rattle.wk_ffi.specs.Asked.{profile_of, part_of, flag_of, keep_of, short_enough}

-- ---- codes

-- the numbers of `enum wasmkit_result`
abbrev pub code_number : Code → ℕ
code_number Fine = 0
code_number Invalid = 1
code_number Malformed = 2
code_number BadScript = 3
code_number Refused = 4
code_number NoMemory = 5
code_number BadArgument = 6
code_number TooSmall = 7

-- by the status of a verdict, or of bytes that are no module
abbrev pub status_told : ℕ → Code
status_told n = if n == 0 then Fine else if n == 1 then Invalid else Malformed

-- by the status of a run
abbrev pub run_told : Status → Code
run_told statuses.Accepted = Fine
run_told statuses.Refused = Refused
run_told statuses.Malformed = Malformed
run_told statuses.BadScript = BadScript

-- ---- what there is to tell

pub record Told : Type 0 where
  pub code : Code
  -- of a module, where one is made
  pub bytes : List ℕ
  -- the lines that the program prints
  pub text : List ℕ

-- of arguments that the call takes
abbrev pub told_if : {A : Type 0} → Bool → Option A → (A → Told) → Option Told
told_if short None told = None
told_if short (Some a) told = if short then Some (told a) else None

-- of two of them
abbrev pub told_if_both : {A B : Type 0} → Bool → Option A → Option B → (A → B → Told) → Option Told
told_if_both short None b told = None
told_if_both short (Some a) b told = told_if short b (told a)

-- the verdict on the module that the bytes spell, or their first fault
abbrev pub verdict_answer : Result Parts ReadFault → Told
verdict_answer read = record { code = status_told (status_of read); bytes = []; text = printed read }

abbrev pub validation_told : ℕ → List ℕ → Option Told
validation_told profile bytes = told_if (short_enough bytes) (profile_of profile) (λ p. verdict_answer (module_at p bytes))

-- the sections that stand in the bytes, and the fault of their frames
abbrev pub frames_answer : List (Result Section ReadFault) → Told
frames_answer items = record { code = if list_any is_fault items then Malformed else Fine; bytes = []; text = listing items }

abbrev pub sections_told : List ℕ → Option Told
sections_told bytes = if short_enough bytes then Some (frames_answer (sections_of bytes)) else None

-- where the bytes spell no module
abbrev pub malformed_told : ReadFault → Told
malformed_told fault = record { code = Malformed; bytes = []; text = malformed_text fault }

-- a part of the listing of the module
abbrev pub listing_answer : Part → Result Parts ReadFault → Told
listing_answer part (Ok m) = record { code = Fine; bytes = []; text = lists.listing m part }
listing_answer part (Err fault) = malformed_told fault

abbrev pub list_told : ℕ → ℕ → List ℕ → Option Told
list_told profile part bytes = told_if_both (short_enough bytes) (profile_of profile) (part_of part) (λ p k. listing_answer k (module_at p bytes))

-- the module without its custom sections, but those of a name
abbrev pub strip_answer : Option (List ℕ) → Result Parts ReadFault → Told
strip_answer keep (Ok m) = record { code = Fine; bytes = encoded (settle (with_kept keep m)); text = [] }
strip_answer keep (Err fault) = malformed_told fault

abbrev pub strip_told : ℕ → List ℕ → List ℕ → Option Told
strip_told profile keep bytes = told_if_both (short_enough bytes) (profile_of profile) (keep_of keep) (λ p k. strip_answer k (module_at p bytes))

-- the module that the edits make, and the report
abbrev pub outcome_told : Outcome → Told
outcome_told o = record { code = run_told o.status; bytes = out_of o; text = o.report }

abbrev pub edit_told : ℕ → ℕ → List ℕ → List ℕ → Option Told
edit_told profile keep_valid bytes script =
    let short = short_enough bytes && short_enough script in
    told_if_both short (profile_of profile) (flag_of keep_valid) (λ p keep. outcome_told (outcome_of keep p bytes script))
