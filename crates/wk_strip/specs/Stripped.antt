-- Modules without their custom sections, or with those of one name.
use Rattle.std.specs.Prelude.{◌≡◌, ℕ, Bool, false, Option, Some, None, List, Ok, filter}
use Rattle.std.specs.Str.{bytes_eq}
use Rattle.wk_bytes.specs.Frames.{Frame, SpellsFraming}
use Rattle.wk_body.specs.declared.types.Profile.{Profile}
use Rattle.wk_module.specs.declared.types.Custom.{Custom}
use Rattle.wk_module.specs.declared.types.Parts.{Parts}
use Rattle.wk_module.specs.Customs.{SpellsCustoms}
use Rattle.wk_module.specs.Modules.{Spells}
use Rattle.wk_module.specs.Reading.{module_at}
use Rattle.wk_module.specs.Shape.{settle}
use Rattle.wk_module.specs.Writing.{encoded, Fits}

-- whether a custom has the name to keep, if there is one
abbrev pub is_kept : Option (List ℕ) → Custom → Bool
is_kept None c = false
is_kept (Some name) c = bytes_eq c.name name

-- the module with those customs alone
abbrev pub with_kept : Option (List ℕ) → Parts → Parts
with_kept keep m = record m { customs = filter (is_kept keep) m.customs }

-- the module that the bytes spell fits with these customs in the place of its own
abbrev pub FitsWith : Profile → List ℕ → List Custom → Type 0
FitsWith profile b kept = (m : Parts) → module_at profile b ≡ Ok m → Fits (record m { customs = kept })

-- this is the written form of that module
abbrev pub IsWrittenWith : Profile → List ℕ → List Custom → List ℕ → Type 0
IsWrittenWith profile b kept s = (m : Parts) × (module_at profile b ≡ Ok m) × (s ≡ encoded (record m { customs = kept }))

-- these customs are those that stay of the ones that the bytes spell
abbrev pub AreKept : Option (List ℕ) → List ℕ → List Custom → Type 0
AreKept keep b kept = (fs : List Frame) (cs : List Custom) → SpellsFraming b fs → SpellsCustoms 0 fs cs → kept ≡ filter (is_kept keep) cs

-- The bytes b spell one module of the profile. What it is with those customs alone is a module that fits, and s, its written form,
-- spells it and no other of the profile.
pub record IsStripped (profile : Profile) (keep : Option (List ℕ)) (b s : List ℕ) : Type 0 where
  pub before : Parts
  pub profile_is : before.profile ≡ profile
  pub spelled : Spells b before
  pub only : (n : Parts) → n.profile ≡ profile → Spells b n → n ≡ before
  pub after : Parts
  pub made : after ≡ settle (with_kept keep before)
  pub fits : Fits after
  pub written : s ≡ encoded after
  pub spells : Spells s after
  pub alone : (n : Parts) → n.profile ≡ profile → Spells s n → n ≡ after
