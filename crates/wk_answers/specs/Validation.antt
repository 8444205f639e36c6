-- What `validate` prints of bytes, by what reading them gives, and its status.
use Rattle.std.specs.Prelude.{◌≡◌, ◌≢◌, ℕ, ◌⊎◌, List, Result, Ok, Err}
use Rattle.wk_bytes.specs.declared.fault.ReadKind.TheVariants.{Memory}
use Rattle.wk_bytes.specs.declared.fault.ReadFault.{ReadFault}
use Rattle.wk_bytes.specs.Stands.{StandsIn}
use Rattle.wk_body.specs.declared.types.Profile.{Profile}
use Rattle.wk_module.specs.declared.types.Parts.{Parts}
use Rattle.wk_module.specs.FirstFaults.{IsFirstFault}
use Rattle.wk_module.specs.Modules.{Spells, SpellsNone}
use Rattle.wk_typing.specs.declared.fault.Verdict.{Verdict}
use Rattle.wk_typing.specs.declared.fault.Verdict.TheVariants.{Valid, Invalid}
use Rattle.wk_check.specs.Verdict.{module_verdict}
use Rattle.wk_check.specs.VerdictLines.{malformed_text, verdict_line}

-- the verdict of the module that the bytes spell, or their first fault where they spell none
abbrev pub printed : Result Parts ReadFault → List ℕ
printed (Ok m) = verdict_line (module_verdict m)
printed (Err fault) = malformed_text fault

abbrev pub verdict_status : Verdict → ℕ
verdict_status Valid = 0
verdict_status (Invalid fault) = 1

abbrev pub status_of : Result Parts ReadFault → ℕ
status_of (Ok m) = verdict_status (module_verdict m)
status_of (Err fault) = 2

-- ---- in words

-- the bytes spell this module of the profile and no other, and the line and the status are those of its verdict
pub record TellsVerdict (profile : Profile) (bytes line : List ℕ) (status : ℕ) : Type 0 where
  pub told : Parts
  pub profile_is : told.profile ≡ profile
  pub spelled : Spells bytes told
  pub alone : (n : Parts) → n.profile ≡ profile → Spells bytes n → n ≡ told
  pub line_is : line ≡ verdict_line (module_verdict told)
  pub status_is : status ≡ verdict_status (module_verdict told)

-- the bytes spell no module of the profile, and the line is that of their first fault, which is never want of memory
pub record TellsFault (profile : Profile) (bytes line : List ℕ) (status : ℕ) : Type 0 where
  pub none : SpellsNone profile bytes
  pub fault : ReadFault
  pub known : fault.kind ≢ Memory
  pub stands : StandsIn bytes fault
  pub first : IsFirstFault profile bytes fault
  pub line_is : line ≡ malformed_text fault
  pub status_is : status ≡ 2

abbrev pub Means : Profile → List ℕ → List ℕ → ℕ → Type 0
Means profile bytes line status = TellsVerdict profile bytes line status ⊎ TellsFault profile bytes line status
