-- What the answer of stripping says, by what it is exactly.
use Rattle.std.proofs.Common.{◌≡◌, ◌≢◌, ℕ, List, Option, Result, Ok, Err, IfOk, refl, sym, ap, subst, ◌∙◌, arith, length}
use Rattle.std.specs.List.{filter}
use Rattle.std.specs.Prelude.{IfErr, MatchResult}
use Rattle.wk_bytes.specs.declared.fault.ReadKind.TheVariants.{Memory}
use Rattle.wk_bytes.specs.declared.fault.ReadFault.{ReadFault}
use Rattle.wk_bytes.specs.Frames.{Frame, SpellsFraming}
use Rattle.wk_bytes.specs.Stands.{StandsIn}
use Rattle.wk_body.specs.declared.types.Profile.{Profile}
use Rattle.wk_body.specs.Reads.{FailsAs}
use Rattle.wk_module.specs.declared.types.Custom.{Custom}
use Rattle.wk_module.specs.declared.types.Parts.{Parts}
use Rattle.wk_module.specs.Customs.{SpellsCustoms}
use Rattle.wk_module.specs.ListReading.{IsReading}
use Rattle.wk_module.specs.ModuleLaws.{SpellOne}
use Rattle.wk_module.specs.Modules.{Spells, SpellsNone}
use Rattle.wk_module.specs.Reading.{module_at}
use Rattle.wk_module.specs.Shape.{settle, IsShaped}
use Rattle.wk_module.specs.ShapeLaws.{filter_shaped}
use Rattle.wk_module.specs.Writing.{encoded, Fits}
use Rattle.wk_module.specs.WritingLaws.{length-encoded_filter}
use Rattle.wk_module.proofs.Standing.{fault_refused, fault_stands}
use Rattle.wk_strip.specs.Stripped.{is_kept, with_kept, IsStripped}

module _ (profile : Profile) (b : List ℕ) (is : IsReading profile b (module_at profile b)) where
  pub told_refused : {X : Type 0} (P : X → Type 0) (r : Result X ReadFault) → MatchResult r P (λ e. FailsAs e e.kind (module_at profile b))
      → IfErr r (λ e. e.kind ≢ Memory → SpellsNone profile b)
  told_refused P (Ok x) told = tt
  told_refused P (Err e) told = fault_refused profile b is e told

  pub told_fault : {X : Type 0} (P : X → Type 0) (r : Result X ReadFault) → MatchResult r P (λ e. FailsAs e e.kind (module_at profile b))
      → IfErr r (λ e. StandsIn b e)
  told_fault P (Ok x) told = tt
  told_fault P (Err e) told = fault_stands profile b is e told

  module _ (keep : Option (List ℕ)) (kept : List Custom) (fits : IfOk (module_at profile b) (λ m. Fits m))
      (found : (fs : List Frame) (cs : List Custom) → SpellsFraming b fs → SpellsCustoms 0 fs cs → kept ≡ filter (is_kept keep) cs) where
    is_read : (m : Parts) → module_at profile b ≡ Ok m → IsReading profile b (Ok m)
    is_read m read = subst (IsReading profile b) read is

    kept_are : (m : Parts) → module_at profile b ≡ Ok m → kept ≡ filter (is_kept keep) m.customs
    kept_are m read = let spelled = (is_read m read).1 in found spelled.frames m.customs spelled.framing spelled.customs

    made : (m : Parts) → module_at profile b ≡ Ok m → record m { customs = kept } ≡ settle (with_kept keep m)
    made m read = ap (λ (cs : List Custom). let n : Parts = record m { customs = cs } in n) (kept_are m read)
        ∙ sym (filter_shaped (is_kept keep) m (is_read m read).3).settled

    fit : (m : Parts) → module_at profile b ≡ Ok m → Fits m
    fit m read = subst (λ (r : Result Parts ReadFault). IfOk r (λ n. Fits n)) read fits

    pub kept_fit : (m : Parts) → module_at profile b ≡ Ok m → Fits (record m { customs = kept })
    kept_fit m read = omega (
      arith,
      fit m read,
      length-encoded_filter (is_kept keep) m,
      ap (λ (cs : List Custom). let n : Parts = record m { customs = cs } in length (encoded n)) (kept_are m read),
    )

    abbrev pub IsMade : List ℕ → Type 0
    IsMade s = (m : Parts) × (module_at profile b ≡ Ok m) × (s ≡ encoded (record m { customs = kept }))

    pub exactly : (s : List ℕ) → IsMade s → (m : Parts) × (module_at profile b ≡ Ok m) × (s ≡ encoded (settle (with_kept keep m)))
    exactly s made_of = (made_of.0, made_of.1, made_of.2 ∙ ap encoded (made made_of.0 made_of.1))

    pub meaning : ((m : Parts) → IsShaped m → Fits m → Spells (encoded m) m) → SpellOne → (s : List ℕ) → IsMade s → IsStripped profile keep b s
    meaning spelling one s made_of =
        let m = made_of.0 in
        let read = is_read m made_of.1 in
        let after = settle (with_kept keep m) in
        let same = made m made_of.1 in
        let fitting : Fits after = subst (λ (n : Parts). Fits n) same (kept_fit m made_of.1) in
        let shaped : IsShaped after = let stays = filter_shaped (is_kept keep) m read.3 in subst IsShaped (sym stays.settled) stays in
        let written : s ≡ encoded after = made_of.2 ∙ ap encoded same in
        let spelled : Spells s after = subst (λ (bytes : List ℕ). Spells bytes after) (sym written) (spelling after shaped fitting) in
        record {
          before = m;
          profile_is = read.0;
          spelled = read.1;
          only = read.2;
          after = after;
          made = refl;
          fits = fitting;
          written = written;
          spells = spelled;
          alone = λ n is_of others. one s n after (is_of ∙ sym read.0) others spelled;
        }

    pub told_exact : (r : Result (List ℕ) ReadFault) → MatchResult r IsMade (λ e. FailsAs e e.kind (module_at profile b))
        → MatchResult r (λ s. (m : Parts) × (module_at profile b ≡ Ok m) × (s ≡ encoded (settle (with_kept keep m))))
        (λ e. FailsAs e e.kind (module_at profile b))
    told_exact (Ok s) told = exactly s told
    told_exact (Err e) told = told

    pub told_meaning : ((m : Parts) → IsShaped m → Fits m → Spells (encoded m) m) → SpellOne → (r : Result (List ℕ) ReadFault)
        → MatchResult r IsMade (λ e. FailsAs e e.kind (module_at profile b)) → IfOk r (λ s. IsStripped profile keep b s)
    told_meaning spelling one (Ok s) told = meaning spelling one s told
    told_meaning spelling one (Err e) told = tt
