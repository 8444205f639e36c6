-- What a listing, and a refusal of listing and of stripping, mean.
use Rattle.std.proofs.Common.{◌≡◌, ◌≢◌, Option, List, ℕ, Result, Ok, Err, sym, subst}
use Rattle.std.specs.Prelude.{OnOk}
use Rattle.wk_bytes.specs.declared.fault.ReadFault.{ReadFault}
use Rattle.wk_bytes.specs.declared.fault.ReadKind.TheVariants.{Memory}
use Rattle.wk_bytes.specs.Stands.{StandsIn}
use Rattle.wk_body.specs.declared.types.Profile.{Profile}
use Rattle.wk_body.specs.Reads.{FailsAs}
use Rattle.wk_body.specs.ReadsLaws.{other_fault}
use Rattle.wk_module.specs.declared.types.Parts.{Parts}
use Rattle.wk_module.specs.ListReading.{IsReading}
use Rattle.wk_module.specs.Modules.{SpellsNone}
use Rattle.wk_ffi.specs.Meanings.{MeansNone, MeansListed, MeansStripped}

-- where it was no want of memory
refused_so : (Means : Result Parts ReadFault → Type 0) (profile : Profile) (bytes : List ℕ) (read : Result Parts ReadFault) (fault : ReadFault)
    → ((d : ReadFault) → MeansNone profile bytes d → Means (Err d))
    → FailsAs fault fault.kind read → (fault.kind ≢ Memory → SpellsNone profile bytes) → StandsIn bytes fault → fault.kind ≢ Memory → Means read
refused_so Means profile bytes read fault so fails none stands other =
    subst Means (sym (other_fault fault fault.kind read other fails)) (so fault (none other, stands, other))

on_refused : {A B : Type 0} (Means : Result Parts ReadFault → Type 0) (profile : Profile) (bytes : List ℕ) (read : Result Parts ReadFault)
    (fault : ReadFault) (r : Result A B)
    → ((d : ReadFault) → MeansNone profile bytes d → Means (Err d))
    → FailsAs fault fault.kind read → (fault.kind ≢ Memory → SpellsNone profile bytes) → StandsIn bytes fault → OnOk r (fault.kind ≢ Memory)
    → OnOk r (Means read)
on_refused Means profile bytes read fault (Ok a) so fails none stands other = refused_so Means profile bytes read fault so fails none stands other
on_refused Means profile bytes read fault (Err e) so fails none stands other = other

-- of stripping
pub means_refused : {A B : Type 0} (profile : Profile) (keep : Option (List ℕ)) (bytes : List ℕ) (read : Result Parts ReadFault) (fault : ReadFault)
    (r : Result A B)
    → FailsAs fault fault.kind read → (fault.kind ≢ Memory → SpellsNone profile bytes) → StandsIn bytes fault → OnOk r (fault.kind ≢ Memory)
    → OnOk r (MeansStripped profile keep bytes read)
means_refused profile keep bytes read fault r = on_refused (MeansStripped profile keep bytes) profile bytes read fault r (λ d none. none)

-- of listing
pub list_refused : {A B : Type 0} (profile : Profile) (bytes : List ℕ) (read : Result Parts ReadFault) (fault : ReadFault) (r : Result A B)
    → FailsAs fault fault.kind read → (fault.kind ≢ Memory → SpellsNone profile bytes) → StandsIn bytes fault → OnOk r (fault.kind ≢ Memory)
    → OnOk r (MeansListed profile bytes read)
list_refused profile bytes read fault r = on_refused (MeansListed profile bytes) profile bytes read fault r (λ d none. none)

pub means_read : (profile : Profile) (bytes : List ℕ) (m : Parts) (read : Result Parts ReadFault) → read ≡ Ok m → IsReading profile bytes read
    → MeansListed profile bytes read
means_read profile bytes m read is reading = subst (MeansListed profile bytes) (sym is) (subst (IsReading profile bytes) is reading)
