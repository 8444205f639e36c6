-- What is told behind the line of a verdict, by what judging gave.
use Rattle.std.proofs.Common.{◌≡◌, ◌≢◌, List, [], Result, Ok, Err, refl, sym, subst, ◌∙◌, append-nil}
use Rattle.std.specs.Prelude.{ℕ, OnOk}
use Rattle.wk_bytes.specs.declared.fault.ReadKind.TheVariants.{Memory}
use Rattle.wk_bytes.specs.declared.fault.ReadFault.{ReadFault}
use Rattle.wk_body.specs.declared.types.Profile.{Profile}
use Rattle.wk_body.specs.Reads.{FailsAs}
use Rattle.wk_module.specs.declared.types.Parts.{Parts}
use Rattle.wk_module.specs.ListReading.{IsReading}
use Rattle.wk_module.specs.Modules.{Spells}
use Rattle.wk_typing.specs.declared.fault.Verdict.{Verdict}
use Rattle.wk_typing.specs.declared.fault.Verdict.TheVariants.{Valid}
use Rattle.wk_judging.specs.Spelled.{judged}
use Rattle.wk_check.specs.Verdict.{module_verdict}
use Rattle.wk_answers.specs.Explaining.{Puts, TellsBody, TellsMore, TellsVerdict}
use Rattle.wk_answers.specs.JudgingLaws.{by_fault, by_verdict}

-- what follows from all that holds on success holds then
pub all_on_ok : {A E M : Type 0} (r : Result A E) (Is P : M → Type 0) (Q : Type 0) → ((m : M) → Is m → OnOk r (P m)) → (((m : M) → Is m → P m) → Q)
    → OnOk r Q
all_on_ok (Ok x) Is P Q all then = then all
all_on_ok (Err e) Is P Q all then = tt

pub one_on_ok : {A E : Type 0} (r : Result A E) (P Q : Type 0) → OnOk r P → (P → Q) → OnOk r Q
one_on_ok (Ok x) P Q one then = then one
one_on_ok (Err e) P Q one then = tt

module _ (profile : Profile) (b old new : List ℕ) where
  abbrev Told : Result Parts ReadFault → Type 0
  Told r = Puts (TellsMore profile b r) old new

  -- a module was judged
  pub told_verdict : (r : Result Parts ReadFault) (v : Verdict) → IsReading profile b r → judged r ≡ Ok v
      → ((m : Parts) → m.profile ≡ profile → Spells b m → module_verdict m ≡ v → Puts (TellsVerdict profile b m v) old new) → Told r
  told_verdict r v is read told =
      by_verdict profile b Told r v is read (λ m h. subst (λ (w : Verdict). Puts (TellsVerdict profile b m w) old new) (sym h.2) (told m h.0 h.1 h.2))

  -- it is valid
  pub told_valid : (r : Result Parts ReadFault) → IsReading profile b r → judged r ≡ Ok Valid → new ≡ old → Told r
  told_valid r is read same = told_verdict r Valid is read (λ m of s v. ([], refl, same ∙ sym (append-nil old)))

  -- the bytes are no module
  pub told_fault : (r : Result Parts ReadFault) (e : ReadFault) → FailsAs e e.kind (judged r) → e.kind ≢ Memory → Puts (TellsBody profile b e) old new → Told r
  told_fault r e fails known told = by_fault profile b Told r e fails known told
