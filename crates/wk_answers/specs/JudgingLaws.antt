-- What judging bytes gave tells what they spell: a module of that verdict, or none, and their first fault.
use Rattle.std.proofs.Common.{◌≡◌, ◌≢◌, List, Result, Ok, Err, refl, sym, subst}
use Rattle.std.specs.Prelude.{ℕ}
use Rattle.wk_bytes.specs.declared.fault.ReadKind.TheVariants.{Memory}
use Rattle.wk_bytes.specs.declared.fault.ReadFault.{ReadFault}
use Rattle.wk_body.specs.declared.types.Profile.{Profile}
use Rattle.wk_body.specs.Reads.{FailsAs}
use Rattle.wk_body.specs.ReadsLaws.{other_fault}
use Rattle.wk_module.specs.declared.types.Parts.{Parts}
use Rattle.wk_module.specs.ListReading.{IsReading}
use Rattle.wk_module.specs.Modules.{Spells}
use Rattle.wk_typing.specs.declared.fault.Verdict.{Verdict}
use Rattle.wk_judging.specs.Spelled.{judged}
use Rattle.wk_check.specs.Verdict.{module_verdict}

-- what judging bytes gives
abbrev pub Judging : Type 0
Judging = Result Verdict ReadFault

abbrev pub verdict_is : Verdict → Judging
verdict_is v = Ok v

abbrev fault_is : ReadFault → Judging
fault_is e = Err e

pub not_both : (r : Judging) (v : Verdict) (e : ReadFault) → r ≡ Ok v → r ≡ Err e → ⊥
not_both (Ok w) v e good bad = absurd cc
not_both (Err d) v e good bad = absurd cc

same_verdict : (v w : Verdict) → verdict_is v ≡ Ok w → v ≡ w
same_verdict v w e = cc

pub same_fault : (d e : ReadFault) → fault_is d ≡ Err e → d ≡ e
same_fault d e is = cc

-- A property Q of what reading the bytes gives.
module _ (profile : Profile) (b : List ℕ) (Q : Result Parts ReadFault → Type 0) where
  -- a module was judged
  pub by_verdict : (r : Result Parts ReadFault) (v : Verdict) → IsReading profile b r → judged r ≡ Ok v
      → ((m : Parts) → (m.profile ≡ profile) × Spells b m × (module_verdict m ≡ v) → Q (Ok m)) → Q r
  by_verdict (Ok m) v is read of = of m (is.0, is.1, same_verdict (module_verdict m) v read)
  by_verdict (Err e) v is read of = absurd (not_both (judged (Err e)) v e read refl)

  -- the bytes are no module
  pub by_fault : (r : Result Parts ReadFault) (e : ReadFault) → FailsAs e e.kind (judged r) → e.kind ≢ Memory → Q (Err e) → Q r
  by_fault (Ok m) e fails known of = absurd (not_both (judged (Ok m)) (module_verdict m) e refl (other_fault e e.kind (judged (Ok m)) known fails))
  by_fault (Err d) e fails known of =
      subst (λ (f : ReadFault). Q (Err f)) (sym (same_fault d e (other_fault e e.kind (judged (Err d)) known fails))) of
