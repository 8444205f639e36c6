-- What there is to tell means, in the words of the grammars and of the verdict.
use Rattle.std.specs.Prelude.{◌≢◌, ℕ, Option, Some, None, List, Result, Ok, Err, IfErr}
use Rattle.wk_bytes.specs.declared.fault.ReadFault.{ReadFault}
use Rattle.wk_bytes.specs.declared.fault.ReadKind.TheVariants.{Memory}
use Rattle.wk_bytes.specs.Stands.{StandsIn}
use Rattle.wk_body.specs.declared.types.Profile.{Profile}
use Rattle.wk_module.specs.declared.types.Parts.{Parts}
use Rattle.wk_module.specs.ListReading.{IsReading}
use Rattle.wk_module.specs.Modules.{SpellsNone}
use Rattle.wk_module.specs.Reading.{module_at}
use Rattle.wk_module.specs.Shape.{settle}
use Rattle.wk_module.specs.Writing.{encoded}
use Rattle.wk_strip.specs.Stripped.{IsStripped, with_kept}
use Rattle.wk_edit.specs.Outcome.{outcome_of}
use Rattle.wk_edit.specs.Theorem.{IsReport}
use Rattle.wk_answers.specs.Validation.{printed, status_of, Means}
use Rattle.wk_ffi.specs.Asked.{profile_of, part_of, flag_of, keep_of}

-- of a number that has a meaning
abbrev pub Given : {A : Type 0} → Option A → (A → Type 0) → Type 0
Given None P = Unit {0}
Given (Some a) P = P a

-- the text is the verdict of the one module that the bytes spell, or a fault that stands in them where they spell none
abbrev pub ValidationMeans : ℕ → List ℕ → Type 0
ValidationMeans profile bytes = Given (profile_of profile) (λ p. Means p bytes (printed (module_at p bytes)) (status_of (module_at p bytes)))

-- what is located is the fault of the one module that the bytes spell, or where they spell none their first fault, which is no want of memory
abbrev pub LocateMeans : ℕ → List ℕ → Type 0
LocateMeans profile bytes =
    Given (profile_of profile) (λ p. IsReading p bytes (module_at p bytes) × IfErr (module_at p bytes) (λ e. e.kind ≢ Memory))

-- the bytes spell no module, and the fault, which is no want of memory, stands in them
abbrev pub MeansNone : Profile → List ℕ → ReadFault → Type 0
MeansNone profile bytes fault = SpellsNone profile bytes × StandsIn bytes fault × (fault.kind ≢ Memory)

-- what is listed is the one module that the bytes spell; or they spell none
abbrev pub MeansListed : Profile → List ℕ → Result Parts ReadFault → Type 0
MeansListed profile bytes (Ok m) = IsReading profile bytes (Ok m)
MeansListed profile bytes (Err fault) = MeansNone profile bytes fault

abbrev pub ListMeans : ℕ → ℕ → List ℕ → Type 0
ListMeans profile part bytes = Given (profile_of profile) (λ p. Given (part_of part) (λ _. MeansListed p bytes (module_at p bytes)))

-- what is written is the one module that the bytes spell without the custom sections that go, and spells that alone; or they spell none
abbrev pub MeansStripped : Profile → Option (List ℕ) → List ℕ → Result Parts ReadFault → Type 0
MeansStripped profile keep bytes (Ok m) = IsStripped profile keep bytes (encoded (settle (with_kept keep m)))
MeansStripped profile keep bytes (Err fault) = MeansNone profile bytes fault

abbrev pub StripMeans : ℕ → List ℕ → List ℕ → Type 0
StripMeans profile keep bytes =
    Given (profile_of profile) (λ p. Given (keep_of keep) (λ k. MeansStripped p k bytes (module_at p bytes)))

-- the bytes and the text are those of the main theorem
abbrev pub EditMeans : ℕ → ℕ → List ℕ → List ℕ → Type 0
EditMeans profile keep_valid bytes script =
    Given (profile_of profile) (λ p. Given (flag_of keep_valid) (λ keep. IsReport keep p bytes script (outcome_of keep p bytes script)))
