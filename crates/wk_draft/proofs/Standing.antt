-- What the outcome of a module has to be, by that of its draft, where both are measured and judged.
use Rattle.std.proofs.Common.{◌≡◌, ◌+◌, ◌≤◌, nat_le, Bool, true, false, cond, List, length, Result, Ok, Err, refl, sym, ap, subst, ◌∙◌, arith}
use Rattle.std.proofs.lemmas.Bool.{le-leb, cond-true}
use Rattle.wk_bytes.specs.Frames.{limit}
use Rattle.wk_bytes.specs.Leb.{◌>>=◌}
use Rattle.wk_module.specs.declared.types.Func.{Func}
use Rattle.wk_module.specs.declared.types.Parts.{Parts}
use Rattle.wk_module.specs.Shape.{settle, is_filled, IsInOrderFrom, IsShaped}
use Rattle.wk_module.specs.ShapeLaws.{settled_in_order}
use Rattle.wk_module.specs.Writing.{encoded}
use Rattle.wk_module.specs.WritingLaws.{length-encoded_settle}
use Rattle.wk_typing.specs.declared.fault.Verdict.{Verdict}
use Rattle.wk_typing.specs.declared.fault.Verdict.TheVariants.{Valid, Invalid}
use Rattle.wk_check.specs.Verdict.{module_verdict}
use Rattle.wk_session.specs.declared.edit.EditFault.{EditFault}
use Rattle.wk_session.specs.declared.edit.EditFault.TheVariants.{TooLarge, WouldBreak}
use Rattle.wk_session.specs.Edits.{fitting, unbroken, lasting}
use Rattle.wk_session.specs.Kept.{standing}
use Rattle.wk_draft.specs.Drafts.{IsDraft, deferred_room}
use Rattle.wk_body.specs.declared.shifts.Shifts.{Shifts}
use Rattle.wk_draft.proofs.DraftLengths.{draft_fits}
use Rattle.wk_draft.proofs.Sketches.{same_verdict, same_customs, settled_draft}

-- Where the draft comes to n, which leaves room for the deferred bodies, the module comes to one of which n is the draft. Where the
-- draft is refused, so is the module; that it would be invalid, if there is room, and of one that is too large nothing is known.
abbrev pub IsLed : Type 0 → Shifts → List Func → List Bool → Result Parts EditFault → Result Parts EditFault → Type 0
IsLed room s os deferred (Ok n) q = IsShaped n → length (encoded n) + deferred_room os ≤ limit → ((p : Parts) × (q ≡ Ok p) × IsDraft s os deferred p n)
IsLed room s os deferred (Err TooLarge) q = Unit {0}
IsLed room s os deferred (Err (WouldBreak fault)) q = room → q ≡ Err (WouldBreak fault)
IsLed room s os deferred (Err f) q = q ≡ Err f

module _ (room : Type 0) (s : Shifts) (os : List Func) (deferred : List Bool) (m d : Parts) (h : IsDraft s os deferred m d) where
  -- ---- judged, and not measured

  unbroken_led : (v : Verdict) → IsLed room s os deferred (unbroken d v) (unbroken m v)
  unbroken_led Valid = λ shaped little. (m, refl, h)
  unbroken_led (Invalid f) = λ r. refl

  pub lasting_led : (keep : Bool) → IsLed room s os deferred (lasting keep d) (lasting keep m)
  lasting_led false = λ shaped little. (m, refl, h)
  lasting_led true =
      subst (λ (v : Verdict). IsLed room s os deferred (unbroken d (module_verdict d)) (unbroken m v)) (sym (same_verdict s os deferred m d h.sketch))
      (unbroken_led (module_verdict d))

  -- ---- measured and judged

  module _ (order : IsInOrderFrom 0 d.customs) where
    fitted : length (encoded d) + deferred_room os ≤ limit → fitting m ≡ Ok m
    fitted little =
        let fits = draft_fits s os deferred m d h.sketch (subst (IsInOrderFrom 0) (same_customs s os deferred m d h.sketch) order) little in
        cond-true (nat_le (length (encoded m)) limit) (Ok m) (Err TooLarge) (le-leb (length (encoded m)) limit fits)

    module _ (fits : room → length (encoded d) + deferred_room os ≤ limit) where
      judged_led : (v : Verdict) → module_verdict m ≡ v → IsLed room s os deferred (unbroken d v) (fitting m >>= lasting true)
      judged_led Valid is = λ shaped little. (m, ap (λ (q : Result Parts EditFault). q >>= lasting true) (fitted little) ∙ ap (unbroken m) is, h)
      judged_led (Invalid f) is = λ r. ap (λ (q : Result Parts EditFault). q >>= lasting true) (fitted (fits r)) ∙ ap (unbroken m) is

      kept_led : (keep : Bool) → IsLed room s os deferred (lasting keep d) (fitting m >>= lasting keep)
      kept_led false = λ shaped little. (m, ap (λ (q : Result Parts EditFault). q >>= lasting false) (fitted little), h)
      kept_led true = judged_led (module_verdict d) (same_verdict s os deferred m d h.sketch)

      measured_led : (keep : Bool) (b : Bool) → IsLed room s os deferred (cond b (Ok d) (Err TooLarge) >>= lasting keep) (fitting m >>= lasting keep)
      measured_led keep true = kept_led keep
      measured_led keep false = tt

-- modules whose customs are to settle
module _ (room : Type 0) (s : Shifts) (os : List Func) (deferred : List Bool) (m d : Parts) (h : IsDraft s os deferred m d) where
  pub settled_led : (keep : Bool) → IsLed room s os deferred (lasting keep (settle d)) (lasting keep (settle m))
  settled_led = lasting_led room s os deferred (settle m) (settle d) (settled_draft s os deferred m d h)

  pub standing_led : IsInOrderFrom 0 d.customs → (room → length (encoded d) + deferred_room os ≤ limit) → (keep : Bool)
      → IsLed room s os deferred (standing keep d) (standing keep m)
  standing_led order fits keep =
      measured_led room s os deferred (settle m) (settle d) (settled_draft s os deferred m d h) (settled_in_order (is_filled d) 0 d.customs order)
      (λ r. let little = fits r in omega (arith, length-encoded_settle d order, little)) keep (nat_le (length (encoded (settle d))) limit)
