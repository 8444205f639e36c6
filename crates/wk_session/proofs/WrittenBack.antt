-- The written form of a session's module spells no other.
use Rattle.std.proofs.Common.{◌≡◌, subst}
use Rattle.wk_module.specs.declared.types.Parts.{Parts}
use Rattle.wk_module.specs.ModuleLaws.{SpellOne}
use Rattle.wk_module.specs.Modules.{Spells}
use Rattle.wk_module.specs.Shape.{IsShaped}
use Rattle.wk_module.specs.Writing.{encoded, Fits}
use Rattle.wk_session.specs.declared.cache.Cache.{Cache}
use Rattle.wk_session.specs.Kept.{IsKept}
use Rattle.wk_session.proofs.Keeping.{kept_fits}

pub kept_alone : (m p : Parts) (k : Cache) → IsKept m k → IsShaped m → m ≡ p → ((q : Parts) → IsShaped q → Fits q → Spells (encoded q) q) → SpellOne
    → (n : Parts) → n.profile ≡ p.profile → Spells (encoded p) n → n ≡ p
kept_alone m p k kept shaped same spells one n profile spelled =
    one (encoded p) n p profile spelled (subst (λ (q : Parts). Spells (encoded q) q) same (spells m shaped (kept_fits m k kept)))
