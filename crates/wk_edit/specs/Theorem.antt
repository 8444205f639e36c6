-- What the main call, `edit_owned`, does, from bytes to bytes, in the words of the grammars. It promises `IsReport` of the outcome that it
-- writes, wherever it wrote anything, and so do `edit_in` and `edit`, which lend it bytes; `keep` says whether each edit has to leave a
-- valid module.
use Rattle.std.specs.Prelude.{◌≡◌, ◌≢◌, ◌⊎◌, ◌↔◌, ℕ, Bool, true, List, [], ◌++◌, codes}
use Rattle.wk_bytes.specs.declared.fault.ReadFault.{ReadFault}
use Rattle.wk_bytes.specs.declared.fault.ReadKind.TheVariants as kinds
use Rattle.wk_bytes.specs.Stands.{StandsIn}
use Rattle.wk_body.specs.declared.types.Profile.{Profile}
use Rattle.wk_module.specs.declared.types.Parts.{Parts}
use Rattle.wk_module.specs.FirstFaults.{IsFirstFault}
use Rattle.wk_module.specs.Modules.{Spells, SpellsNone}
use Rattle.wk_module.specs.Writing.{encoded}
use Rattle.wk_typing.specs.declared.fault.Verdict.TheVariants.{Valid}
use Rattle.wk_check.specs.Valid.{IsValidModule}
use Rattle.wk_check.specs.Verdict.{module_verdict}
use Rattle.wk_session.specs.declared.edit.Edit.{Edit}
use Rattle.wk_session.specs.Making.{AreMade}
use Rattle.wk_session.specs.Runs.{replies_of, after}
use Rattle.wk_session.specs.Told.{AreTold}
use Rattle.wk_edit.specs.declared.fault.ScriptFault.{ScriptFault}
use Rattle.wk_edit.specs.declared.fault.Status.TheVariants.{Malformed, BadScript}
use Rattle.wk_edit.specs.Outcome.{Outcome, out_of, run_status}
use Rattle.wk_check.specs.VerdictLines.{malformed_text}
use Rattle.wk_edit.specs.ReportText.{script_text, report_text}
use Rattle.wk_edit.specs.ScriptGrammar.{IsScript, IsOnlyScript, IsNoScript, IsFaultOf}

-- The input spells no module of the profile. Nothing is written of one, and the report is one line, with the first fault of the input, at
-- its offset. That is never want of memory.
pub record IsMalformed (profile : Profile) (input : List ℕ) (o : Outcome) : Type 0 where
  pub fault : ReadFault
  pub none : SpellsNone profile input
  pub stands : StandsIn input fault
  pub first : IsFirstFault profile input fault
  pub other : fault.kind ≢ kinds.Memory
  pub out : out_of o ≡ []
  pub report : o.report ≡ malformed_text fault
  pub status : o.status ≡ Malformed

-- The input spells a module, and the script is none. Nothing is written of a module, and the report is one line, with the script's first
-- faulty line.
pub record IsBadScript (script : List ℕ) (o : Outcome) : Type 0 where
  pub fault : ScriptFault
  pub none : IsNoScript script
  pub first : IsFaultOf script fault
  pub out : out_of o ≡ []
  pub report : o.report ≡ script_text fault
  pub status : o.status ≡ BadScript

-- The line is the last of the text: LF follows it, and before it comes nothing, or another line's LF.
pub record HasLastLine (text line : List ℕ) : Type 0 where
  pub front : List ℕ
  pub parts : text ≡ front ++ (line ++ codes "\n")
  pub whole : (front ≡ []) ⊎ ((before : List ℕ) × (front ≡ before ++ codes "\n"))

-- The script spells edits, and no others. They are made in order on the module that the input spells: an accepted one puts into it what its bytes
-- spell, and they spell nothing else; a refused one leaves it as it was, and where that is for its bytes they spell nothing. Where each edit has
-- to leave a valid module, a valid one stays valid. What is written spells the module that they make, and no other of its profile. The
-- report has a line for each edit, and last the verdict on that module, which is `valid` exactly where the module is.
pub record IsRun (keep : Bool) (m : Parts) (script : List ℕ) (o : Outcome) : Type 0 where
  pub edits : List Edit
  pub spelled : IsScript script edits
  pub only : IsOnlyScript script edits
  pub edited : Parts
  pub made : edited ≡ after keep edits [] m
  pub steps : AreMade edits (replies_of keep edits [] m) m edited
  pub told : AreTold m.profile edits (replies_of keep edits [] m)
  pub kept : keep ≡ true → IsValidModule m → IsValidModule edited
  pub out : out_of o ≡ encoded edited
  pub spells : Spells (out_of o) edited
  pub alone : (n : Parts) → n.profile ≡ edited.profile → Spells (out_of o) n → n ≡ edited
  pub report : o.report ≡ report_text 1 (replies_of keep edits [] m) (module_verdict edited)
  pub judged : module_verdict edited ≡ Valid ↔ IsValidModule edited
  pub valid : HasLastLine o.report (codes "valid") ↔ IsValidModule edited
  pub status : o.status ≡ run_status (replies_of keep edits [] m) (module_verdict edited)

-- The input spells a module of the profile, and no other.
pub record IsRead (profile : Profile) (input : List ℕ) (m : Parts) : Type 0 where
  pub profile_is : m.profile ≡ profile
  pub spelled : Spells input m
  pub only : (n : Parts) → n.profile ≡ profile → Spells input n → n ≡ m

-- The module is read first, then the script.
abbrev pub IsReport : Bool → Profile → List ℕ → List ℕ → Outcome → Type 0
IsReport keep profile input script o =
    IsMalformed profile input o
    ⊎ ((m : Parts) × IsRead profile input m × (IsBadScript script o ⊎ IsRun keep m script o))
