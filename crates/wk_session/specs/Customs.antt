-- Changes of custom sections.
use Rattle.std.specs.Prelude.{◌≡◌, ◌≢◌, ℕ, zero, suc, ◌-◌, Bool, List, [], ◌∷◌, Result, Ok, Err}
use Rattle.wk_module.specs.declared.types.Custom.{Custom}
use Rattle.wk_module.specs.declared.types.Parts.{Parts}
use Rattle.wk_module.specs.Shape.{IsFormed, settle}
use Rattle.wk_session.specs.declared.edit.EditFault.{EditFault}
use Rattle.wk_session.specs.declared.edit.EditFault.TheVariants.{Memory}
use Rattle.wk_session.specs.declared.cache.Cache.{Cache}
use Rattle.wk_session.specs.Edits.{fitting, with_bytes}
use Rattle.wk_session.specs.Kept.{IsKept, standing}

-- the custom at an index with other bytes
abbrev pub bytes_at : ℕ → List ℕ → List Custom → List Custom
bytes_at i bytes [] = []
bytes_at zero bytes (c ∷ cs) = with_bytes bytes c ∷ cs
bytes_at (suc i) bytes (c ∷ cs) = c ∷ bytes_at i bytes cs

-- a new custom behind all others
abbrev pub last_custom : List ℕ → List ℕ → Custom
last_custom name bytes = record { place = 11; name = name; bytes = bytes }

-- what is kept, where the length is another by other customs
abbrev pub with_customs_len : ℕ → Cache → Cache
with_customs_len len k = record k { len = len; pieces = record k.pieces { customs_len = len - (k.len - k.pieces.customs_len) } }

-- From m, of which k is kept, it came to n, which may stay; or all is as it was, since n may not or memory was wanted, but not where n is too
-- large.
abbrev pub IsPut : {A : Type 0} → Bool → Parts → Parts → Cache → Result A EditFault → Parts → Cache → Type 0
IsPut keep m n k (Ok x) p j = (standing keep n ≡ Ok (settle n)) × (p ≡ n) × IsFormed n × IsKept n j
IsPut keep m n k (Err e) p j = (e ≢ Memory → standing keep n ≡ Err e) × (e ≡ Memory → fitting (settle n) ≡ Ok (settle n)) × (p ≡ m) × (j ≡ k)
