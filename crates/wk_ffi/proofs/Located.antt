-- What the numbers of bytes are, by what judging them gave.
use Rattle.std.proofs.Common.{◌≡◌, ◌≢◌, ℕ, Option, List, Result, Ok, Err, refl, sym, subst}
use Rattle.std.specs.Prelude.{IfErr, IfOk, MatchOption}
use Rattle.wk_bytes.specs.declared.fault.ReadFault.{ReadFault}
use Rattle.wk_bytes.specs.declared.fault.ReadKind.TheVariants.{Memory}
use Rattle.wk_body.specs.declared.types.Profile.{Profile}
use Rattle.wk_body.specs.Reads.{FailsAs, Reads}
use Rattle.wk_body.specs.ReadsLaws.{other_fault}
use Rattle.wk_module.specs.declared.types.Parts.{Parts}
use Rattle.wk_module.specs.ListReading.{IsReading}
use Rattle.wk_module.specs.Modules.{Spells}
use Rattle.wk_typing.specs.declared.fault.Verdict.{Verdict}
use Rattle.wk_judging.specs.Spelled.{judged}
use Rattle.wk_check.specs.Verdict.{module_verdict}
use Rattle.wk_place.specs.Places.{IsInBodyOf, IsInNoBody}
use Rattle.wk_answers.specs.JudgingLaws.{Judging, by_fault, by_verdict, not_both, same_fault}
use Rattle.wk_ffi.specs.declared.numbers.FaultNumbers.{FaultNumbers}
use Rattle.wk_ffi.specs.Numbers.{malformed_numbers, AreOfRead, AreOfVerdict}

-- what follows of a value from all that holds of it on success holds then
pub all_if_ok : {A E M : Type 0} (r : Result A E) (Is : M → Type 0) (P : M → A → Type 0) (Q : A → Type 0) → ((m : M) → Is m → IfOk r (P m))
    → ((x : A) → ((m : M) → Is m → P m x) → Q x) → IfOk r Q
all_if_ok (Ok x) Is P Q all then = then x all
all_if_ok (Err e) Is P Q all then = tt

-- where judging was no want of memory, reading is none
pub read_known : (v : Judging) (r : Result Parts ReadFault) → Reads (λ (w : Verdict). w) v (judged r) → IfErr v (λ e. e.kind ≢ Memory)
    → IfErr r (λ e. e.kind ≢ Memory)
read_known v (Ok m) reads known = tt
read_known (Ok v) (Err e) reads known = absurd (not_both (judged (Err e)) v e reads refl)
read_known (Err d) (Err e) fails known =
    subst (λ (f : ReadFault). f.kind ≢ Memory) (sym (same_fault e d (other_fault d d.kind (judged (Err e)) known fails))) known

module _ (profile : Profile) (b : List ℕ) (n : FaultNumbers) where
  abbrev Are : Result Parts ReadFault → Type 0
  Are r = AreOfRead profile b r n

  -- a module was judged
  pub of_verdict : (r : Result Parts ReadFault) (v : Verdict) → IsReading profile b r → judged r ≡ Ok v
      → ((m : Parts) → (m.profile ≡ profile) × Spells b m × (module_verdict m ≡ v) → AreOfVerdict profile b m v n) → Are r
  of_verdict r v is read are =
      by_verdict profile b Are r v is read (λ m h. subst (λ (w : Verdict). AreOfVerdict profile b m w n) (sym h.2) (are m h))

  -- the bytes are no module
  pub of_no_module : (r : Result Parts ReadFault) (e : ReadFault) → FailsAs e e.kind (judged r) → e.kind ≢ Memory
      → (func : Option ℕ) → MatchOption func (IsInNoBody profile b e) (IsInBodyOf profile b e) → n ≡ malformed_numbers e func → Are r
  of_no_module r e fails known func is are = by_fault profile b Are r e fails known (func, is, are)
