-- How a command is run: what the store is asked, in which order, what standard output gets, and how it ends.
use Rattle.std.specs.Prelude.{◌≡◌, ◌≢◌, ◌⊎◌, ◌≤◌, ◌<◌, ℕ, ◌+◌, true, Option, Some, None, List, [], ◌∷◌, ◌++◌, length, Result, Ok, Err, IsErrAnd}
use Rattle.std.specs.Io.KnownBytes.{Appends}
use Rattle.wk_bytes.specs.declared.fault.ReadFault.{ReadFault}
use Rattle.wk_bytes.specs.declared.fault.ReadKind.TheVariants as reads
use Rattle.wk_bytes.specs.Frames.{limit}
use Rattle.wk_bytes.specs.Taken.{TakesFront}
use Rattle.wk_module.specs.Reading.{module_at}
use Rattle.wk_check.specs.VerdictLines.{malformed_text}
use Rattle.wk_answers.specs.Validation.{status_of}
use Rattle.wk_command_line.specs.declared.command.Asked.{Asked}
use Rattle.wk_command_line.specs.declared.command.Asked.TheVariants.{Edit, Objdump, Sections, Strip, Validate, ValidateEach}
use Rattle.wk_command_line.specs.declared.command.EachCommand.{EachCommand}
use Rattle.wk_command_line.specs.declared.command.EditCommand.{EditCommand}
use Rattle.wk_command_line.specs.declared.command.ObjdumpCommand.{ObjdumpCommand}
use Rattle.wk_command_line.specs.declared.command.StripCommand.{StripCommand}
use Rattle.wk_command_line.specs.declared.command.ValidateCommand.{ValidateCommand}
use Rattle.wasmkit.specs.declared.fault.ProgramFault.{ProgramFault}
use Rattle.wasmkit.specs.declared.fault.ProgramFault.TheVariants.{Output, Memory}
use Rattle.wasmkit.specs.declared.store.StoreFault.{StoreFault}
use Rattle.wasmkit.specs.declared.store.StoreFault.TheVariants as stores
use Rattle.wasmkit.specs.Answers.{Answer, IsPrinted, Judged, both_judged, dumped, edited, exhausted, framed, judged_as, named_line, nothing_judged, stripped, unread}
use Rattle.wasmkit.specs.Events.{Event, Loaded, Saved, then_all}
use Rattle.wk_command_line.specs.CommandLine.{SpellsOnly, Word, files_of}
use Rattle.wasmkit.specs.Faults.{fault_status, fault_text, memory_text, IsOfLoad, IsOfSave, RefusesWords}

-- ---- what an output gets

-- the bytes that it took and its failures, before and after
pub record Printing : Type 0 where
  pub before : Option (List ℕ)
  pub after : Option (List ℕ)
  pub failed_before : ℕ
  pub failed_after : ℕ

abbrev pub printing : Option (List ℕ) → Option (List ℕ) → ℕ → ℕ → Printing
printing before after failed_before failed_after = record { before = before; after = after; failed_before = failed_before; failed_after = failed_after }

-- .. of an output in two states, by what it took and how often it failed
abbrev pub between : {X : Type 0} → (X → Option (List ℕ)) → (X → ℕ) → X → X → Printing
between taken failed old new = printing (taken old) (taken new) (failed old) (failed new)

pub record GetsNothing (p : Printing) : Type 0 where
  pub taken : p.after ≡ p.before
  pub failed : p.failed_after ≡ p.failed_before

-- all of the text
pub record Gets (text : List ℕ) (p : Printing) : Type 0 where
  pub taken : Appends p.before p.after text
  pub failed : p.failed_after ≡ p.failed_before

-- a beginning of the text, as what should print it stopped
pub record GetsFront (text : List ℕ) (p : Printing) : Type 0 where
  pub taken : TakesFront p.before p.after text
  pub failed : p.failed_after ≡ p.failed_before

-- a beginning of the text, as it failed then
pub record Fails (text : List ℕ) (p : Printing) : Type 0 where
  pub taken : TakesFront p.before p.after text
  pub failed : p.failed_after ≡ p.failed_before + 1

-- the text, or a beginning of it where the output failed
abbrev pub GetsOrFails : List ℕ → Printing → Type 0
GetsOrFails text p = Gets text p ⊎ Fails text p

-- one thing, and then another
pub record InTurn (first then : Printing → Type 0) (p : Printing) : Type 0 where
  pub between : Option (List ℕ)
  pub failed_between : ℕ
  pub one : first (printing p.before between p.failed_before failed_between)
  pub other : then (printing between p.after failed_between p.failed_after)

-- ---- what is done, step by step

-- a way to go on: which events are still to come, what is printed, and how it ends
abbrev pub Rest : Type 1
Rest = List Event → Printing → Result ℕ ProgramFault → Type 0

-- nothing more is asked, nothing is printed, and this is why
abbrev pub Stops : (ProgramFault → Type 0) → Rest
Stops why events p r = (events ≡ []) × GetsNothing p × IsErrAnd r why

-- The file of the name is loaded, and that goes on with its bytes.
abbrev pub Loads : List ℕ → (List ℕ → Rest) → Rest
Loads name rest [] p r = ⊥
Loads name rest (Loaded asked (Ok bytes) ∷ events) p r = (asked ≡ name) × rest bytes events p r
Loads name rest (Loaded asked (Err why) ∷ events) p r = (asked ≡ name) × Stops (IsOfLoad name why) events p r
Loads name rest (Saved asked bytes answer ∷ events) p r = ⊥

-- The bytes are saved under the name, where there are any, and that goes on.
abbrev pub Saves : List ℕ → Option (List ℕ) → Rest → Rest
Saves name None rest events p r = rest events p r
Saves name (Some bytes) rest [] p r = ⊥
Saves name (Some bytes) rest (Saved asked given (Ok x) ∷ events) p r = (asked ≡ name) × (given ≡ bytes) × rest events p r
Saves name (Some bytes) rest (Saved asked given (Err why) ∷ events) p r = (asked ≡ name) × (given ≡ bytes) × Stops (IsOfSave name why) events p r
Saves name (Some bytes) rest (Loaded asked answer ∷ events) p r = ⊥

-- The text is printed last.
abbrev pub Prints : ℕ → List ℕ → Rest
Prints status text events p (Ok told) = (told ≡ status) × (events ≡ []) × Gets text p
Prints status text events p (Err Output) = (events ≡ []) × Fails text p
Prints status text events p (Err fault) = ⊥

-- Memory is refused before anything is saved or printed.
abbrev pub Exhausts : Rest
Exhausts = Stops (λ fault. fault ≡ Memory)

-- .. or behind the beginning of a text that goes out while the rest of it is worked out
abbrev pub Breaks : Answer → Rest
Breaks a events p r = (a.is_early ≡ true) × (events ≡ []) × GetsFront a.text p × (r ≡ Err Memory)

-- There is no module: the line of the fault is printed, if it is not that memory was refused.
abbrev pub Refuses : ReadFault → Printing → Result ℕ ProgramFault → Type 0
Refuses fault p r = Exhausts [] p r ⊎ (fault.kind ≢ reads.Memory) × Prints 2 (malformed_text fault) [] p r

-- What was worked out is saved under the name, where it is to be, and then printed.
abbrev pub Gives : List ℕ → Answer → Rest
Gives name a events p r = Saves name a.saved (Prints a.status a.text) events p r ⊎ Exhausts events p r ⊎ Breaks a events p r

-- ---- commands

-- FILE and SCRIPT are read. A SCRIPT that is longer than a module may be counts as one that could not be.
abbrev pub Scripted : EditCommand → List ℕ → List ℕ → Rest
Scripted c input script events p r = ((length script ≤ limit) × Gives c.out.now (edited c input script) events p r)
    ⊎ ((limit < length script) × Stops (IsOfLoad c.script.now stores.Failed) events p r)

-- FILE is loaded first, then SCRIPT, and OUT is saved last.
abbrev pub Edits : EditCommand → Rest
Edits c = Loads c.file.now (λ input. Loads c.script.now (λ script. Scripted c input script))

abbrev pub Dumps : ObjdumpCommand → Rest
Dumps c = Loads c.file.now (λ input. Gives [] (dumped c input))

abbrev pub Frames : Word → Rest
Frames file = Loads file (λ input. Gives [] (framed input))

abbrev pub Strips : StripCommand → Rest
Strips c = Loads c.file.now (λ input. Gives c.out.now (stripped c input))

-- `validate` prints its text, or memory is refused before.
abbrev pub Says : ValidateCommand → List ℕ → Rest
Says c input events p r = Exhausts events p r
    ⊎ ((text : List ℕ) × IsPrinted c.explain c.profile input text × Prints (status_of (module_at c.profile input)) text events p r)

abbrev pub Judges : ValidateCommand → Rest
Judges c = Loads c.file.now (Says c)

-- ---- `validate --each`

-- what comes of one FILE, by what the store answers
abbrev pub IsJudged : EachCommand → Word → Result (List ℕ) StoreFault → Judged → Type 0
IsJudged c name (Ok input) j = ((text : List ℕ) × IsPrinted c.explain c.profile input text × (j ≡ judged_as c name input text)) ⊎ (j ≡ exhausted)
IsJudged c name (Err stores.Failed) j = (j ≡ unread name) ⊎ (j ≡ exhausted)
IsJudged c name (Err stores.Memory) j = j ≡ exhausted

-- why one FILE has no line
abbrev pub IsLeft : Word → Result (List ℕ) StoreFault → ProgramFault → Type 0
IsLeft name (Ok input) fault = fault ≡ Memory
IsLeft name (Err why) fault = IsOfLoad name why fault

-- These FILEs are loaded, in order and nothing else, and this comes of them.
abbrev pub AreJudged : EachCommand → List Word → List Event → Judged → Type 0
AreJudged c [] [] j = j ≡ nothing_judged
AreJudged c (name ∷ names) (Loaded asked answer ∷ events) j = (asked ≡ name) × (one others : Judged) × IsJudged c name answer one
    × AreJudged c names events others × (j ≡ both_judged one others)
AreJudged c names events j = ⊥

-- Standard output failed in the line of one of them. Those in front of it were told of, and those behind it are left.
pub record FailsAtOne (c : EachCommand) (told : List ℕ) (events : List Event) (p : Printing) : Type 0 where
  pub front : List Word
  pub name : Word
  pub behind : List Word
  pub files : files_of c ≡ front ++ name ∷ behind
  pub input : List ℕ
  pub before : List Event
  pub asked : events ≡ before ++ Loaded name (Ok input) ∷ []
  pub judged : Judged
  pub are : AreJudged c front before judged
  pub told_is : told ≡ judged.told
  pub text : List ℕ
  pub text_is : IsPrinted c.explain c.profile input text
  pub printed : InTurn (Gets judged.lines) (Fails (named_line name text)) p

-- Each FILE is told of, and the status is the highest; or standard output failed.
abbrev pub JudgesEach : EachCommand → List ℕ → Rest
JudgesEach c told events p (Ok status) = (j : Judged) × AreJudged c (files_of c) events j × (status ≡ j.status) × (told ≡ j.told) × Gets j.lines p
JudgesEach c told events p (Err Output) = FailsAtOne c told events p
JudgesEach c told events p (Err fault) = ⊥

-- ---- any command

-- nothing is told on standard error before the end
abbrev pub Quietly : Rest → List ℕ → Rest
Quietly rest told events p r = (told ≡ []) × rest events p r

-- .. by what was told on standard error before the end
abbrev pub Carries : Asked → List ℕ → Rest
Carries (Edit c) = Quietly (Edits c)
Carries (Objdump c) = Quietly (Dumps c)
Carries (Sections file) = Quietly (Frames file.now)
Carries (Strip c) = Quietly (Strips c)
Carries (Validate c) = Quietly (Judges c)
Carries (ValidateEach c) = JudgesEach c

-- These events, and no others, are what the store was asked in between, and so it went.
pub record Goes (rest : Rest) (before after : Option (List Event)) (p : Printing) (r : Result ℕ ProgramFault) : Type 0 where
  pub events : List Event
  pub asked : after ≡ then_all before events
  pub went : rest events p r

-- The words spell no command, or memory was refused before one was read. The store is asked nothing, and nothing is printed.
pub record IsUnread (words : List (List ℕ)) (before after : Option (List Event)) (p : Printing) (r : Result ℕ ProgramFault) : Type 0 where
  pub asked : after ≡ before
  pub printed : GetsNothing p
  pub why : IsErrAnd r (RefusesWords words)

-- The words spell a command and no other, and it was carried out.
pub record IsCarried (words : List (List ℕ)) (before after : Option (List Event)) (p : Printing) (told : List ℕ) (r : Result ℕ ProgramFault) : Type 0 where
  pub command : Asked
  pub spelled : SpellsOnly words command
  pub carried : Goes (Carries command told) before after p r

abbrev pub IsAnswered : List (List ℕ) → Option (List Event) → Option (List Event) → Printing → List ℕ → Result ℕ ProgramFault → Type 0
IsAnswered words before after p told r = ((told ≡ []) × IsUnread words before after p r) ⊎ IsCarried words before after p told r

-- ---- standard error and the exit status

-- Standard error was told this and has it, or a beginning where it failed.
abbrev pub Hears : List ℕ → Printing → Type 0
Hears [] p = GetsNothing p
Hears (x ∷ told) p = GetsOrFails (x ∷ told) p

-- .. and behind that a text, where it is known, or else some text
abbrev pub HearsAlso : List ℕ → Option (List ℕ) → Printing → Type 0
HearsAlso told (Some text) p = GetsOrFails (told ++ text) p
HearsAlso told None p = (text : List ℕ) × GetsOrFails (told ++ text) p

-- the status and the text of a fault, behind what was told; or 5, with that memory was wanted for its text
abbrev pub Tells : List ℕ → ProgramFault → ℕ → Printing → Type 0
Tells told fault status err = ((status ≡ fault_status fault) × HearsAlso told (fault_text fault) err)
    ⊎ ((status ≡ 5) × GetsOrFails (told ++ memory_text) err)

-- the status is that of the answer, and nothing more is told; or it is that of the fault
abbrev pub Exits : List ℕ → Result ℕ ProgramFault → ℕ → Printing → Type 0
Exits told (Ok answered) status err = (status ≡ answered) × Hears told err
Exits told (Err fault) status err = Tells told fault status err
