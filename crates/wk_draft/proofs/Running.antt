-- What a run of a draft comes to.
use Rattle.std.proofs.Common.{◌≡◌, ℕ, ◌≤◌, List, [], ◌∷◌, length, map, Option, Result, Ok, Err, sym, ap, subst, ◌∙◌}
use Rattle.std.specs.Prelude.{IfOk}
use Rattle.std.specs.List.{AllByRecursion}
use Rattle.wk_bytes.specs.Frames.{limit}
use Rattle.wk_bytes.specs.declared.fault.ReadFault.{ReadFault}
use Rattle.wk_body.specs.declared.types.Profile.{Profile}
use Rattle.wk_module.specs.declared.types.Func.{Func}
use Rattle.wk_module.specs.declared.types.Parts.{Parts}
use Rattle.wk_body.specs.Written.{written_body}
use Rattle.wk_module.specs.Items.{IsCode}
use Rattle.wk_module.specs.ListReading.{IsReading}
use Rattle.wk_module.specs.Outlines.{outlined}
use Rattle.wk_module.specs.Sections.{CodeSection}
use Rattle.wk_module.specs.Shape.{IsShaped}
use Rattle.wk_module.specs.Writing.{encoded, Fits}
use Rattle.wk_typing.specs.declared.fault.Verdict.{Verdict}
use Rattle.wk_typing.specs.declared.fault.Verdict.TheVariants.{Valid}
use Rattle.wk_check.specs.SpacesLaws.{answers_of}
use Rattle.wk_check.specs.Verdict.{module_verdict}
use Rattle.wk_pieces.specs.Overlays.{with_items}
use Rattle.wk_pieces.specs.Pieces.{code_of}
use Rattle.wk_pieces.specs.Recoded.{encoded_with}
use Rattle.wk_pieces.specs.RecodedLaws.{recoded}
use Rattle.wk_draft.specs.declared.draft.Draft.{Draft}
use Rattle.wk_draft.specs.Runs.{IsHeld, IsOutlined}
use Rattle.wk_draft.proofs.SketchTypes.{same_types}
use Rattle.wk_draft.proofs.Sketches.{same_verdict, shaped_draft}

-- ---- the module that was read

codes_formed : (profile : Profile) (fs : List Func) → AllByRecursion (IsCode profile) (map (λ (f : Func). f.body) fs)
    → AllByRecursion (λ (f : Func). IsCode profile f.body) fs
codes_formed profile [] all = tt
codes_formed profile (f ∷ fs) all = (all.0, codes_formed profile fs all.1)

-- by what is asked of the bytes, what reading says of them, and what the outline is
pub opened_by : (profile : Profile) (b : List ℕ) (outline : Parts) (codes : List (List ℕ)) (read : Result Parts ReadFault)
    → ((n : Parts) × (read ≡ Ok n) × (module_verdict n ≡ Valid)) → IsReading profile b read → IfOk read (λ n. Fits n)
    → ((n : Parts) × (read ≡ Ok n) × (outline ≡ outlined n) × (codes ≡ map (λ (f : Func). written_body f.body) n.funcs))
    → (m : Parts) → read ≡ Ok m → IsOutlined m outline codes
opened_by profile b outline codes (Ok p) asked reads fits is m at =
    let here : p ≡ m = cc in
    let there : asked.0 ≡ m = cc in
    let told : is.0 ≡ m = cc in
    let shaped : IsShaped m = subst IsShaped here reads.3 in
    record {
      outline = is.2 ∙ ap outlined told;
      codes = is.3 ∙ ap (λ (n : Parts). map code_of n.funcs) told;
      formed = codes_formed m.profile m.funcs (shaped.formed.valid CodeSection).1;
      shaped = shaped;
      fits = subst (λ (n : Parts). Fits n) here fits;
      valid = subst (λ (n : Parts). module_verdict n ≡ Valid) there asked.2;
    }
opened_by profile b outline codes (Err e) asked reads fits is m at = absurd cc

-- the codes of an outline are those of the module that the bytes spell
pub codes_by : (read : Result Parts ReadFault) (outline : Parts) (codes : List (List ℕ))
    → ((n : Parts) × (read ≡ Ok n) × (outline ≡ outlined n) × (codes ≡ map (λ (f : Func). written_body f.body) n.funcs))
    → (m : Parts) → read ≡ Ok m → codes ≡ map code_of m.funcs
codes_by (Ok p) outline codes is m at =
    let told : is.0 ≡ m = cc in is.3 ∙ ap (λ (n : Parts). map code_of n.funcs) told
codes_by (Err e) outline codes is m at = absurd cc

-- ---- the module that is written

module _ (os : List Func) (m : Parts) (d : Draft) (held : IsHeld os m d) where
  pub written : (news : List (Option (List ℕ))) → with_items (map code_of d.session.funcs) news ≡ map code_of m.funcs
      → encoded_with d.session (with_items (map code_of d.session.funcs) news) ≡ encoded m
  written news are =
      let rest = held.draft.sketch.rest in
      let back : m ≡ record d.session { funcs = m.funcs } = sym (ap (λ (p : Parts). record p { funcs = m.funcs }) rest) in
      ap (encoded_with d.session) are
      ∙ recoded d.session m back (sym (same_types m.profile (answers_of m) d.shifts os d.deferred.items m.funcs d.session.funcs held.draft.sketch.funcs))

  pub written_fits : (news : List (Option (List ℕ))) → with_items (map code_of d.session.funcs) news ≡ map code_of m.funcs
      → length (encoded_with d.session (with_items (map code_of d.session.funcs) news)) ≤ limit
  written_fits news are = subst (λ (b : List ℕ). length b ≤ limit) (sym (written news are)) held.fits

  pub verdict_is : (v : Verdict) → v ≡ module_verdict d.session → v ≡ module_verdict m
  verdict_is v is = is ∙ sym (same_verdict d.shifts os d.deferred.items m d.session held.draft.sketch)

  pub shaped_is : IsShaped d.session → IsShaped m
  shaped_is shaped = shaped_draft d.shifts os d.deferred.items m d.session held.draft.sketch shaped
