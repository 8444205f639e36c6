-- Laws on the bytes of modules, as clauses state them.
use Rattle.std.specs.Prelude.{◌≡◌, ℕ, List}
use Rattle.wk_body.specs.declared.types.Profile.TheVariants.{Core, Extended}
use Rattle.wk_module.specs.declared.types.Parts.{Parts}
use Rattle.wk_module.specs.Modules.{Spells}

-- no bytes spell two modules of one profile
abbrev pub SpellOne : Type 0
SpellOne = (b : List ℕ) (m n : Parts) → m.profile ≡ n.profile → Spells b m → Spells b n → m ≡ n

-- what spells a module of 1.0 spells the one of the other profile with the same lists
abbrev pub SpellAlike : Type 0
SpellAlike = (b : List ℕ) (m : Parts) → m.profile ≡ Core → Spells b m → Spells b (record m { profile = Extended })
