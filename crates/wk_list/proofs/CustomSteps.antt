-- The details of custom sections of a place, one after the other.
use Rattle.std.proofs.Common.{◌≡◌, ◌≢◌, ℕ, ◌+◌, ◌<◌, List, ◌++◌, length, get_or, drop, sym, ap, ◌∙◌, append_assoc}
use Rattle.std.proofs.lemmas.Bool.{ne_eqb}
use Rattle.std.specs.List.{flat_map}
use Rattle.wk_module.specs.declared.types.Custom.{Custom}
use Rattle.wk_list.specs.Headers.{customs_of}
use Rattle.wk_list.specs.Details.{custom_details}
use Rattle.wk_list.proofs.Walk.{drop-of, drop-others}

-- the texts of those of a place
abbrev pub details_at : ℕ → List Custom → List ℕ
details_at place cs = flat_map custom_details (customs_of place cs)

-- the next one is of the place, and was gathered
pub custom_here : (cs : List Custom) (i place : ℕ) (c : Custom) (t new : List ℕ) → i < length cs → c ≡ get_or cs i c → c.place ≡ place
    → new ≡ t ++ custom_details c → t ++ details_at place (drop i cs) ≡ new ++ details_at place (drop (i + 1) cs)
custom_here cs i place c t new within is here put =
    ap (λ (ds : List Custom). t ++ flat_map custom_details ds) (drop-of place i c cs within is here)
    ∙ sym (ap (λ (r : List ℕ). r ++ details_at place (drop (i + 1) cs)) put ∙ append_assoc t (custom_details c) _)

-- the next one is of another place
pub custom_elsewhere : (cs : List Custom) (i place : ℕ) (c : Custom) → i < length cs → c ≡ get_or cs i c → c.place ≢ place
    → details_at place (drop i cs) ≡ details_at place (drop (i + 1) cs)
custom_elsewhere cs i place c within is there = ap (flat_map custom_details) (drop-others place i c cs within is (ne_eqb c.place place there))
