-- The draft with which edits begin.
use Rattle.std.proofs.Common.{◌≡◌, ℕ, zero, suc, ◌+◌, ◌≤◌, Bool, true, List, [], ◌∷◌, ◌++◌, length, map, refl, sym, ap, subst, ◌∙◌, arith}
use Rattle.std.specs.Prelude.{replicate}
use Rattle.std.proofs.lemmas.List.{length-map}
use Rattle.wk_bytes.specs.Frames.{limit}
use Rattle.wk_module.specs.declared.types.Func.{Func}
use Rattle.wk_module.specs.declared.types.Kind.TheVariants as kinds
use Rattle.wk_module.specs.declared.types.Parts.{Parts}
use Rattle.wk_module.specs.Imports.{import_count}
use Rattle.wk_module.specs.Outlines.{outlined, outlined_func}
use Rattle.wk_module.specs.Shape.{IsShaped}
use Rattle.wk_module.specs.Writing.{encoded}
use Rattle.wk_typing.specs.declared.fault.Verdict.TheVariants.{Valid}
use Rattle.wk_check.specs.Growth.{HasValidBodies}
use Rattle.wk_check.specs.Verdict.{module_verdict}
use Rattle.wk_draft.specs.declared.draft.Draft.{Draft}
use Rattle.wk_draft.specs.Drafts.{IsDraft, deferred_room}
use Rattle.wk_draft.specs.Runs.{IsFirst, IsHeld}
use Rattle.wk_draft.proofs.DraftLengths.{draft_fits}
use Rattle.wk_draft.proofs.Opened.{all_deferred, opened_at}

pub all_deferred_more : (n : ℕ) → replicate n true ++ true ∷ [] ≡ replicate (n + 1) true
all_deferred_more n =
    let next : suc n ≡ n + 1 = omega arith in
    more n ∙ ap (λ (k : ℕ). replicate k true) next
  where
    more : (k : ℕ) → replicate k true ++ true ∷ [] ≡ replicate (suc k) true
    more zero = refl
    more (suc k) = ap (λ (bs : List Bool). true ∷ bs) (more k)

module _ (has : HasValidBodies) (m : Parts) (shaped : IsShaped m) (valid : module_verdict m ≡ Valid) where
  -- the parts of the draft are those of its session
  pub begun : (parts : Parts) (d : Draft) (count len room : ℕ) → d.session ≡ outlined m → parts ≡ d.session → IsFirst parts d.shifts
      → count ≡ length parts.funcs → d.deferred.items ≡ replicate count true
      → len ≡ length (encoded d.session) → room ≡ deferred_room m.funcs → len + room ≤ limit → IsHeld m.funcs m d
  begun parts d count len room is same first counted deferring measured roomy within =
      let all = same ∙ is in
      let funcs_from = first.funcs_from ∙ ap (λ (p : Parts). import_count kinds.Func p.imports) all in
      let globals_from = first.globals_from ∙ ap (λ (p : Parts). import_count kinds.Global p.imports) all in
      let many : count ≡ length m.funcs = counted ∙ ap (λ (p : Parts). length p.funcs) all ∙ length-map m.funcs outlined_func in
      let deferred : d.deferred.items ≡ map (λ (f : Func). true) m.funcs = deferring ∙ ap (λ (n : ℕ). replicate n true) many ∙ all_deferred m.funcs in
      let opened = opened_at m valid has shaped.formed d.shifts funcs_from first.funcs_by globals_from first.globals_by in
      let drafted : IsDraft d.shifts m.funcs d.deferred.items m d.session =
      subst (IsDraft d.shifts m.funcs d.deferred.items m) (sym is)
      (subst (λ (bs : List Bool). IsDraft d.shifts m.funcs bs m (outlined m)) (sym deferred) opened) in
      record {
        draft = drafted;
        fits = draft_fits d.shifts m.funcs d.deferred.items m d.session drafted.sketch shaped.formed.order (omega (arith, measured, roomy, within));
      }
